-- Whether a word has a bit at all, and from a number on: the bits of lower numbers fall out by a shift.
use Prim.Native.Nat.{ℕ, ◌+◌, ◌-◌, ◌/◌, ◌^◌, ◌≤◌, ◌<◌}
use mathlib.Core.Bool.{Bool, true, false, not, ◌&&◌, ◌||◌, or-false, true≢false}
use mathlib.Core.Path.{◌≡◌, refl, sym, ap, ap₂, ◌∙◌, subst}
use native.Mathlib.Nat.{add_comm, div-one}
use native.Mathlib.Omega.{arith}
use borrow.Author.Tests.{lt-leb, le-leb, ne_eqb}
use lib.Dec.{eqb, leb}
use lib.Pow.{shr_lt, pow_pos}
use Rattle.lists.specs.Below.{any_below}
use Rattle.lists.proofs.Below.{any_none, none_of, some_of, any_same, any_split}
use Rattle.bitset.specs.Word.{bit, any_from}
use Rattle.bitset.proofs.Bits.{bit_shr, bit_zero, bits_equal}

pub any_bit : (n w : ℕ) → w < 2 ^ n → any_below (bit w) n ≡ not (eqb w 0)
any_bit n w h = go (any_below (bit w) n) refl
  where
    go : (t : Bool) → any_below (bit w) n ≡ t → any_below (bit w) n ≡ not (eqb w 0)
    go true e =
        let s = some_of (bit w) n e in
        e ∙ sym (ap not (ne_eqb w 0 (λ z. true≢false (sym s.2 ∙ ap (λ (x : ℕ). bit x s.0) z ∙ bit_zero s.0))))
    go false e =
        let none : w ≡ 0 = bits_equal n w 0 h (pow_pos n) (λ k l. none_of (bit w) n e k l ∙ sym (bit_zero k)) in
        e ∙ sym (ap (λ (x : ℕ). not (eqb x 0)) none)

-- the bits below the distance of `from` from the base don't count, and the others are those left after a shift by it
under : (w base from k : ℕ) → k < from - base → (leb from (base + k) && bit w k) ≡ false
under w base from k h = ap (λ (t : Bool). t && bit w k) (lt-leb from (base + k) (omega arith))

pub any_from_none : (w base from : ℕ) → 64 ≤ from - base → any_from w base from ≡ false
unfolding any_from
any_from_none w base from h = any_none (λ k. leb from (base + k) && bit w k) 64 (λ k l. under w base from k (omega arith))

pub any_from_shift : (w base from : ℕ) → w < 2 ^ 64 → from - base ≤ 64 → any_from w base from ≡ not (eqb (w / 2 ^ (from - base)) 0)
unfolding any_from
any_from_shift w base from small h =
    let d = from - base in
    let p : ℕ → Bool = λ k. leb from (base + k) && bit w k in
    let split : 64 ≡ d + (64 - d) = omega arith in
    let rest : w / 2 ^ d < 2 ^ (64 - d) = shr_lt (64 - d) d (subst (λ (n : ℕ). w < 2 ^ n) (split ∙ add_comm d (64 - d)) small) in
    ap (any_below p) split
    ∙ any_split p d (64 - d)
    ∙ ap₂ ◌||◌
    (any_same (λ k. p (d + k)) (bit (w / 2 ^ d)) (64 - d)
    (λ k g. ap₂ ◌&&◌ (le-leb from (base + (d + k)) (omega arith)) (bit_shr w d k)))
    (any_none p d (under w base from))
    ∙ or-false (any_below (bit (w / 2 ^ d)) (64 - d))
    ∙ any_bit (64 - d) (w / 2 ^ d) rest

pub any_from_all : (w base from : ℕ) → w < 2 ^ 64 → from ≤ base → any_from w base from ≡ not (eqb w 0)
any_from_all w base from small h =
    let none : from - base ≡ 0 = omega arith in
    any_from_shift w base from small (omega arith)
    ∙ ap (λ (x : ℕ). not (eqb x 0)) (ap (λ (d : ℕ). w / 2 ^ d) none ∙ div-one w)
