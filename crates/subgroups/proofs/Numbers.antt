-- The number of a kind, looked for from the first kind on.
use Rattle.std.proofs.Common.{◌≡◌, ℕ, zero, suc, ◌+◌, ◌-◌, ◌<◌, ◌≤◌, true, false, cond, List, map, sym, refl, ap, ◌∙◌, arith}
use Rattle.lists.specs.Range.{range}
use Rattle.bitset.specs.Entries.{row_of}
use Rattle.bitset.specs.declared.entries.BitSet.{BitSet}
use Rattle.subgroups.specs.Kinds.{rows_of}
use Rattle.grouping.specs.Subgroups.{same_bits, kind_number}

module _ (table : List ℕ) (count : ℕ) (x : BitSet) where
  -- the rows from row i on, numbered from i
  unfoldable pub from : ℕ → ℕ
  unfolding kind_number row_of range
  from i = kind_number i (map (row_of table) (range i (count - i))) x

  next : (i : ℕ) → i < count → from i ≡ cond (same_bits (row_of table i) x) i (from (i + 1))
  unfolding from kind_number range
  next i h =
      let e : count - i ≡ suc (count - (i + 1)) = omega arith in
      let s : i + 1 ≡ suc i = omega arith in
      ap (λ (n : ℕ). kind_number i (map (row_of table) (range i n)) x) e
      ∙ ap (λ (n : ℕ). cond (same_bits (row_of table i) x) i (kind_number n (map (row_of table) (range n (count - (i + 1)))) x)) (sym s)

  pub number_start : kind_number 0 (rows_of table count) x ≡ from 0
  unfolding rows_of from
  number_start = let e : count - 0 ≡ count = omega arith in ap (λ (n : ℕ). kind_number 0 (map (row_of table) (range 0 n)) x) (sym e)

  -- row i has the bits, or the search goes on, or there is no row left
  pub number_here : (i : ℕ) → i < count → same_bits (row_of table i) x ≡ true → from i ≡ i
  number_here i h e = next i h ∙ rw e

  pub number_later : (i : ℕ) → i < count → same_bits (row_of table i) x ≡ false → from i ≡ from (i + 1)
  number_later i h e = next i h ∙ rw e

  pub number_none : (i : ℕ) → count ≤ i → from i ≡ i
  unfolding from kind_number range
  number_none i h = let e : count - i ≡ 0 = omega arith in ap (λ (n : ℕ). kind_number i (map (row_of table) (range i n)) x) e

  -- ---- the number, where each row is known to have the bits or not

  later : (k : ℕ) → k ≤ count → ((j : ℕ) → j < k → same_bits (row_of table j) x ≡ false) → from 0 ≡ from k
  later zero h none = refl
  later (suc k) h none =
      later k (omega arith) (λ j l. none j (omega arith))
      ∙ number_later k (omega arith) (none k (omega arith))
      ∙ ap from (omega arith)

  pub number_at : (k : ℕ) → k < count → ((j : ℕ) → j < k → same_bits (row_of table j) x ≡ false) → same_bits (row_of table k) x ≡ true
      → kind_number 0 (rows_of table count) x ≡ k
  number_at k h none e = number_start ∙ later k (omega arith) none ∙ number_here k h e

  pub number_nowhere : ((j : ℕ) → j < count → same_bits (row_of table j) x ≡ false) → kind_number 0 (rows_of table count) x ≡ count
  number_nowhere none = number_start ∙ later count (omega arith) none ∙ number_none count (omega arith)
