-- One more is looked at: it takes the place of the best so far, or the best stays.
use Prim.Native.Nat.{ℕ, ◌+◌, ◌*◌, ◌^◌, ◌≤◌, ◌<◌}
use mathlib.Core.Bool.{Bool, true, false, cond, true≢false}
use mathlib.Core.List.{List}
use mathlib.Core.Option.{some}
use mathlib.Core.Path.{◌≡◌, refl, sym, ap, ◌∙◌}
use native.Mathlib.Omega.{arith}
use lib.ListN.{length, get_or}
use Rattle.std.specs.Prelude.{Option, None, Some}
use Rattle.bitset.specs.Entries.{word_at, row_of, differing}
use Rattle.bitset.specs.declared.entries.BitSet.{BitSet}
use Rattle.bitset.proofs.Words.{Words, row_reads, row_words}
use Rattle.bitset.proofs.Differing.{differing_ones}
use Rattle.joins.specs.Candidate.{comes_first, ones_apart}
use Rattle.joins.specs.declared.candidate.Candidate.{Candidate}
use Rattle.seeking.specs.Search.{found_of, gives_way, looked, Searchable}

-- ---- the best so far, and one more x

pub stays : (b : Option Candidate) (x : Candidate) → gives_way b x ≡ false → (t : Bool) → found_of b ≡ looked comes_first t (found_of b) x
unfolding gives_way looked
stays None x e t = absurd (true≢false e)
stays (Some c) x e true = ap some (ap (λ b. cond b x c) (sym e))
stays (Some c) x e false = refl

pub passed_over : (b : Option Candidate) (x : Candidate) (t : Bool) → t ≡ false → found_of b ≡ looked comes_first t (found_of b) x
unfolding looked
passed_over b x t e = ap (λ t. looked comes_first t (found_of b) x) (sym e)

taken : (b : Option Candidate) (x : Candidate) → gives_way b x ≡ true → some x ≡ looked comes_first true (found_of b) x
unfolding gives_way looked
taken None x e = refl
taken (Some c) x e = ap some (ap (λ b. cond b x c) (sym e))

pub takes_over : (b : Option Candidate) (x : Candidate) → gives_way b x ≡ true → (t : Bool) → t ≡ true → some x ≡ looked comes_first t (found_of b) x
takes_over b x e t q = taken b x e ∙ ap (λ t. looked comes_first t (found_of b) x) (sym q)

-- ---- first words

-- the first words alone tell two sets apart by no more entries than all four
first_at_most : {a b : BitSet} → Words a → Words b → ones_apart (word_at a 0) (word_at b 0) ≤ differing a b
first_at_most p q = omega (arith, differing_ones p q)

module _ (there words sizes bits : List ℕ) (s : Searchable there words sizes bits) (small : (i : ℕ) → i < length bits → get_or bits i 0 < 2 ^ 64)
    (wanted : BitSet) (is : Words wanted) where
  -- the word beside a number does so too
  pub beside_at_most : (k : ℕ) → k < length there → ones_apart (word_at wanted 0) (get_or words k 0) ≤ differing wanted (row_of bits (get_or there k 0))
  beside_at_most k h =
      let j = get_or there k 0 in
      let room : 4 * j + 4 ≤ length bits = omega (arith, s.readable.inside k h, s.rows) in
      let first : get_or words k 0 ≡ word_at (row_of bits j) 0 = s.first.each k h ∙ ap (λ (b : BitSet). word_at b 0) (row_reads bits j room) in
      rw first (first_at_most is (row_words bits j room small))
