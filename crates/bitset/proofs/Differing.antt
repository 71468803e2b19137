-- How many entries exactly one of two sets has: the ones of each word of the exclusive or, summed over the four words.
use Prim.Native.Nat.{ℕ, ◌+◌, ◌*◌, ◌^◌, ◌≤◌, ◌<◌}
use mathlib.Core.Bool.{Bool, true, false}
use mathlib.Core.Path.{◌≡◌, refl, sym, ap, ap₂, ◌∙◌}
use native.Mathlib.Nat.{zero-add}
use native.Mathlib.Omega.{arith}
use lib.Bits.{bit_xor, xor_lt}
use lib.Count.{ones}
use lib.Dec.{lit<}
use lib.Ieee.{unlike}
use Rattle.lists.specs.Below.{count_below}
use Rattle.lists.proofs.Below.{count_same, count_split}
use Rattle.lists.proofs.Count.{count_le, count_none}
use Rattle.bitset.specs.Word.{bit}
use Rattle.bitset.specs.Entries.{word_at, has_bit, differing}
use Rattle.bitset.specs.declared.entries.BitSet.{BitSet}
use Rattle.bitset.proofs.Bits.{bit_xor_lem, ones_count}
use Rattle.bitset.proofs.Words.{Words}
use Rattle.bitset.proofs.Sets.{has_at}

-- a count over the entries is the sum of the counts over each word's bits
count_words : (p : ℕ → Bool) (q : ℕ → ℕ → Bool) → ((w k : ℕ) → w < 4 → k < 64 → p (64 * w + k) ≡ q w k)
    → count_below p 256 ≡ count_below (q 0) 64 + count_below (q 1) 64 + count_below (q 2) 64 + count_below (q 3) 64
count_words p q same =
    count_split p 192 64
    ∙ ap₂ ◌+◌ (count_same (λ k. p (192 + k)) (q 3) 64 (λ k h. same 3 k (lit< tt) h))
    (count_split p 128 64
    ∙ ap₂ ◌+◌ (count_same (λ k. p (128 + k)) (q 2) 64 (λ k h. same 2 k (lit< tt) h))
    (count_split p 64 64
    ∙ ap₂ ◌+◌ (count_same (λ k. p (64 + k)) (q 1) 64 (λ k h. same 1 k (lit< tt) h))
    (count_same p (q 0) 64 (λ k h. ap p (sym (zero-add k)) ∙ same 0 k (lit< tt) h))))
    ∙ turn (count_below (q 3) 64) (count_below (q 2) 64) (count_below (q 1) 64) (count_below (q 0) 64)
  where
    turn : (d c b a : ℕ) → d + (c + (b + a)) ≡ a + b + c + d
    turn d c b a = omega arith

-- the ones of word w of the exclusive or
abbrev pub ones_of : BitSet → BitSet → ℕ → ℕ
ones_of a b w = ones (bit_xor (word_at a w) (word_at b w))

module _ {a b : BitSet} (p : Words a) (q : Words b) where
  xor_small : (w : ℕ) → w < 4 → bit_xor (word_at a w) (word_at b w) < 2 ^ 64
  xor_small w h = xor_lt 64 (word_at a w) (word_at b w) (p.small w h) (q.small w h)

  part : (w : ℕ) → w < 4 → count_below (bit (bit_xor (word_at a w) (word_at b w))) 64 ≡ ones_of a b w
  part w h = sym (ones_count 64 (bit_xor (word_at a w) (word_at b w)) (xor_small w h))

  pub differing_ones : differing a b ≡ ones_of a b 0 + ones_of a b 1 + ones_of a b 2 + ones_of a b 3
  unfolding differing
  differing_ones =
      count_words (λ e. unlike (has_bit a e) (has_bit b e)) (λ w. bit (bit_xor (word_at a w) (word_at b w)))
      (λ w k l h. ap₂ unlike (has_at a w k h) (has_at b w k h) ∙ sym (bit_xor_lem (word_at a w) (word_at b w) k))
      ∙ ap₂ ◌+◌ (ap₂ ◌+◌ (ap₂ ◌+◌ (part 0 (lit< tt)) (part 1 (lit< tt))) (part 2 (lit< tt))) (part 3 (lit< tt))

unlike_comm : (s t : Bool) → unlike s t ≡ unlike t s
unlike_comm true true = refl
unlike_comm true false = refl
unlike_comm false true = refl
unlike_comm false false = refl

unlike_self : (t : Bool) → unlike t t ≡ false
unlike_self true = refl
unlike_self false = refl

pub differing_comm : (a b : BitSet) → differing a b ≡ differing b a
unfolding differing
differing_comm a b =
    count_same (λ e. unlike (has_bit a e) (has_bit b e)) (λ e. unlike (has_bit b e) (has_bit a e)) 256
    (λ e h. unlike_comm (has_bit a e) (has_bit b e))

pub differing_le : (a b : BitSet) → differing a b ≤ 256
unfolding differing
differing_le a b = count_le (λ e. unlike (has_bit a e) (has_bit b e)) 256

-- so no sum of the words' ones wraps
pub ones_le : {a b : BitSet} → Words a → Words b → ones_of a b 0 + ones_of a b 1 + ones_of a b 2 + ones_of a b 3 ≤ 256
ones_le {a} {b} p q = omega (arith, differing_ones p q, differing_le a b)

pub differing_self : (a : BitSet) → differing a a ≡ 0
unfolding differing
differing_self a = count_none (λ e. unlike (has_bit a e) (has_bit a e)) 256 (λ e h. unlike_self (has_bit a e))
