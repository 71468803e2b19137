-- The bits of one word. Bit k of a bitwise operation is the operation of the two bits k; a word is its bits, by induction on the width,
-- bit 0 being the remainder by two and the other bits those of the half.
use Prim.Native.Nat.{ℕ, zero, suc, ◌+◌, ◌*◌, ◌/◌, ◌%◌, ◌^◌, ◌<◌}
use mathlib.Core.Bool.{Bool, true, false, not, ◌&&◌, ◌||◌, cond, true≢false, false≢true}
use mathlib.Core.Path.{◌≡◌, refl, sym, ap, ap₂, ◌∙◌, subst}
use native.Mathlib.Nat.{add-zero, add_comm, not-suc-le-zero, le_of_suc-le-suc, zero-lt-suc, mod-lt, zero-div, div-one, div-add-mod', mul-mod_left, mul-div_cancel, pow-suc}
use native.Mathlib.Omega.{arith}
use borrow.Author.Tests.{eq-eqb, eqb-true}
use lib.Arith.{lt-one}
use lib.Bits.{bit_and, bit_or, bit_xor, and_lt, and_shr, or_shr, xor_shr, and_mod, or_mod, xor_mod}
use lib.Count.{ones, ones_step}
use lib.Dec.{eqb, eqb-zero-suc, eqb-suc-zero, eqb-suc-suc}
use lib.Ieee.{unlike}
use lib.Pow.{shr_lt, shr-shr}
use Rattle.lists.specs.Below.{all_below, count_below}
use Rattle.lists.proofs.Below.{same_truth, all_of, all_every, count_same, count_split}
use Rattle.bitset.specs.Word.{bit, contains}

two_pos : 0 < 2
two_pos = zero-lt-suc 1

-- a number below two is one of two
below_two : (P : ℕ → Type 0) → P 0 → P 1 → (x : ℕ) → x < 2 → P x
below_two P p0 p1 zero h = p0
below_two P p0 p1 (suc zero) h = p1
below_two P p0 p1 (suc (suc x)) h = absurd (not-suc-le-zero (le_of_suc-le-suc (le_of_suc-le-suc h)))

-- an operation that passes through shifts and low digits, with its four answers on the digits 0 and 1
module _ (op : ℕ → ℕ → ℕ) (on : Bool → Bool → Bool)
    (shr : (a b k : ℕ) → op a b / 2 ^ k ≡ op (a / 2 ^ k) (b / 2 ^ k))
    (low : (a b k : ℕ) → op a b % 2 ^ k ≡ op (a % 2 ^ k) (b % 2 ^ k))
    (neither : eqb (op 0 0) 1 ≡ on false false) (second : eqb (op 0 1) 1 ≡ on false true)
    (first : eqb (op 1 0) 1 ≡ on true false) (both : eqb (op 1 1) 1 ≡ on true true) where
  digit : (x y : ℕ) → x < 2 → y < 2 → eqb (op x y) 1 ≡ on (eqb x 1) (eqb y 1)
  digit x y hx hy =
      below_two (λ x. eqb (op x y) 1 ≡ on (eqb x 1) (eqb y 1))
      (below_two (λ y. eqb (op 0 y) 1 ≡ on false (eqb y 1)) neither second y hy)
      (below_two (λ y. eqb (op 1 y) 1 ≡ on true (eqb y 1)) first both y hy)
      x hx

  bit_of : (a b k : ℕ) → bit (op a b) k ≡ on (bit a k) (bit b k)
  unfolding bit
  bit_of a b k =
      ap (λ (x : ℕ). eqb (x % 2) 1) (shr a b k)
      ∙ ap (λ (x : ℕ). eqb x 1) (low (a / 2 ^ k) (b / 2 ^ k) 1)
      ∙ digit (a / 2 ^ k % 2) (b / 2 ^ k % 2) (mod-lt (a / 2 ^ k) two_pos) (mod-lt (b / 2 ^ k) two_pos)

pub bit_and_lem : (a b k : ℕ) → bit (bit_and a b) k ≡ (bit a k && bit b k)
bit_and_lem = bit_of bit_and ◌&&◌ and_shr and_mod refl refl refl refl

pub bit_or_lem : (a b k : ℕ) → bit (bit_or a b) k ≡ (bit a k || bit b k)
bit_or_lem = bit_of bit_or ◌||◌ or_shr or_mod refl refl refl refl

pub bit_xor_lem : (a b k : ℕ) → bit (bit_xor a b) k ≡ unlike (bit a k) (bit b k)
bit_xor_lem = bit_of bit_xor unlike xor_shr xor_mod refl refl refl refl

-- ---- the bits of a half

one_more : (n : ℕ) → 1 + n ≡ suc n
one_more n = omega arith

pub bit_shr : (w m k : ℕ) → bit w (m + k) ≡ bit (w / 2 ^ m) k
unfolding bit
bit_shr w m k = ap (λ (x : ℕ). eqb (x % 2) 1) (sym (shr-shr w m k))

bit_low : (w : ℕ) → bit w 0 ≡ eqb (w % 2) 1
unfolding bit
bit_low w = ap (λ (x : ℕ). eqb (x % 2) 1) (div-one w)

bit_half : (w k : ℕ) → bit w (suc k) ≡ bit (w / 2) k
bit_half w k = ap (bit w) (sym (one_more k)) ∙ bit_shr w 1 k

half_lt : (n w : ℕ) → w < 2 ^ suc n → w / 2 < 2 ^ n
half_lt n w h = shr_lt n 1 (subst (λ (k : ℕ). w < 2 ^ k) (omega arith) h)

-- ---- a word is its bits

same_digit : (x y : ℕ) → x < 2 → y < 2 → eqb x 1 ≡ eqb y 1 → x ≡ y
same_digit x y hx hy =
    below_two (λ x. eqb x 1 ≡ eqb y 1 → x ≡ y)
    (below_two (λ y. false ≡ eqb y 1 → 0 ≡ y) (λ e. refl) (λ e. absurd (false≢true e)) y hy)
    (below_two (λ y. true ≡ eqb y 1 → 1 ≡ y) (λ e. absurd (true≢false e)) (λ e. refl) y hy)
    x hx

pub bits_equal : (n a b : ℕ) → a < 2 ^ n → b < 2 ^ n → ((k : ℕ) → k < n → bit a k ≡ bit b k) → a ≡ b
bits_equal zero a b ha hb same = lt-one ha ∙ sym (lt-one hb)
bits_equal (suc n) a b ha hb same =
    let half : a / 2 ≡ b / 2 = bits_equal n (a / 2) (b / 2) (half_lt n a ha) (half_lt n b hb)
    (λ k h. sym (bit_half a k) ∙ same (suc k) (omega arith) ∙ bit_half b k) in
    let low : a % 2 ≡ b % 2 = same_digit (a % 2) (b % 2) (mod-lt a two_pos) (mod-lt b two_pos)
    (sym (bit_low a) ∙ same 0 (zero-lt-suc n) ∙ bit_low b) in
    sym (div-add-mod' a 2) ∙ ap₂ (λ (x y : ℕ). x * 2 + y) half low ∙ div-add-mod' b 2

pub bit_zero : (k : ℕ) → bit 0 k ≡ false
unfolding bit
bit_zero k = ap (λ (x : ℕ). eqb (x % 2) 1) (zero-div (2 ^ k))

-- the word with the one bit j
pub bit_power : (j k : ℕ) → bit (2 ^ j) k ≡ eqb j k
bit_power zero zero = bit_low 1
bit_power zero (suc k) = bit_half 1 k ∙ bit_zero k ∙ sym (eqb-zero-suc k)
bit_power (suc j) zero =
    bit_low (2 ^ suc j) ∙ ap (λ (x : ℕ). eqb x 1) (ap (λ (x : ℕ). x % 2) (pow-suc 2 j) ∙ mul-mod_left (2 ^ j) 2) ∙ sym (eqb-suc-zero j)
bit_power (suc j) (suc k) =
    bit_half (2 ^ suc j) k
    ∙ ap (λ (x : ℕ). bit x k) (ap (λ (x : ℕ). x / 2) (pow-suc 2 j) ∙ mul-div_cancel (2 ^ j) two_pos)
    ∙ bit_power j k
    ∙ sym (eqb-suc-suc j k)

-- ---- how many bits a word has

digit_one : (x : ℕ) → x < 2 → cond (eqb x 1) 1 0 ≡ x
digit_one = below_two (λ x. cond (eqb x 1) 1 0 ≡ x) refl refl

pub ones_count : (n w : ℕ) → w < 2 ^ n → ones w ≡ count_below (bit w) n
unfolding count_below ones
ones_count zero w h = ap ones (lt-one h)
ones_count (suc n) w h =
    let rest : ones (w / 2) ≡ count_below (λ k. bit w (1 + k)) n =
    ones_count n (w / 2) (half_lt n w h) ∙ count_same (bit (w / 2)) (λ k. bit w (1 + k)) n (λ k l. sym (bit_shr w 1 k)) in
    let low : w % 2 ≡ count_below (bit w) 1 =
    sym (digit_one (w % 2) (mod-lt w two_pos)) ∙ ap (λ (t : Bool). cond t 1 0) (sym (bit_low w)) ∙ sym (add-zero (cond (bit w 0) 1 0)) in
    ones_step w
    ∙ ap₂ (λ (x y : ℕ). x + y) low rest
    ∙ add_comm (count_below (bit w) 1) (count_below (λ k. bit w (1 + k)) n)
    ∙ sym (count_split (bit w) 1 n)
    ∙ ap (count_below (bit w)) (one_more n)

-- ---- a word has each bit of a mask

pub contains_and : (word mask : ℕ) → word < 2 ^ 64 → mask < 2 ^ 64 → contains word mask ≡ eqb (bit_and word mask) mask
unfolding contains
contains_and word mask hw hm =
    same_truth (all_below p 64) (eqb (bit_and word mask) mask)
    (λ e. eq-eqb (bit_and word mask) mask
    (bits_equal 64 (bit_and word mask) mask (and_lt 64 word mask hw hm) hm
    (λ k l. bit_and_lem word mask k ∙ kept (bit word k) (bit mask k) (all_of p 64 e k l))))
    (λ e. all_every p 64 (λ k l. had (bit word k) (bit mask k)
    (sym (bit_and_lem word mask k) ∙ ap (λ (x : ℕ). bit x k) (eqb-true (bit_and word mask) mask e))))
  where
    p : ℕ → Bool
    p k = not (bit mask k) || bit word k

    kept : (a b : Bool) → (not b || a) ≡ true → (a && b) ≡ b
    kept true b e = refl
    kept false true e = e
    kept false false e = refl

    had : (a b : Bool) → (a && b) ≡ b → (not b || a) ≡ true
    had a false e = refl
    had true true e = refl
    had false true e = e
