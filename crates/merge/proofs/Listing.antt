-- The list of the numbers that are still there: what stands in it, and the list after a join.
use Prim.Native.Nat.{ℕ, ◌*◌, ◌<◌}
use mathlib.Core.Bool.{true, not, ◌&&◌}
use mathlib.Core.List.{List, Memᴰ}
use mathlib.Core.Path.{◌≡◌, sym, ap, ◌∙◌}
use native.Mathlib.Nat.{zero-add}
use native.Mathlib.Omega.{arith}
use borrow.Author.Tests.{eq-eqb, ne_eqb, eqb-false, not-true}
use lib.Dec.{eqb}
use lib.ListN.{length, get_or}
use Rattle.lists.specs.Keep.{keep}
use Rattle.lists.specs.Range.{range}
use Rattle.lists.proofs.Distinct.{Distinct}
use Rattle.lists.proofs.KeepTests.{keep_same, keep_keep}
use Rattle.lists.proofs.Members.{range_mem, mem_range, keep_mem, mem_keep}
use Rattle.lists.proofs.Position.{get_or_mem}
use Rattle.lists.proofs.Range.{length_range, get_or_range}
use Rattle.lists.proofs.Pairs.{pairs_keep, pairs_at}
use Rattle.lists.proofs.Sort.{Pairs, pairs_kept}
use Rattle.bitset.specs.Entries.{word_at}
use Rattle.bitset.specs.declared.entries.BitSet.{BitSet}
use Rattle.bitset.proofs.Words.{row_reads}
use Rattle.joins.specs.Subgroup.{Subgroup}
use Rattle.seeking.specs.Listed.{Ascends}
use Rattle.seeking.specs.Search.{Readable}
use Rattle.seeking.proofs.Kept.{all_kept}
use Rattle.seeking.proofs.Removing.{but_one}
use Rattle.merge.specs.Tables.{Mergeable}
use Rattle.merge.specs.Engine.{is_there, listed, Sound, Joinable, JoinedTables}
use Rattle.merge.proofs.There.{small_size}
use Rattle.merge.proofs.Joining.{there_now, joined_count, joined_sound, row_of_other}

module _ (numbers : List ℕ) where
  pub listed_distinct : Distinct (listed numbers)
  unfolding listed
  listed_distinct = pairs_kept (λ x y. x ≡ y → ⊥) (is_there numbers) 0 (length numbers) (λ l m h u p q e. omega arith)

  ascending : Pairs (λ x y. x < y) (listed numbers)
  unfolding listed
  ascending = pairs_kept (λ x y. x < y) (is_there numbers) 0 (length numbers) (λ l m h u p q. omega arith)

  pub listed_ascends : Ascends (listed numbers)
  listed_ascends i j = pairs_at ascending i j 0

  pub left_ascends : (s : ℕ) → Ascends (but_one s (listed numbers))
  left_ascends s i j = pairs_at (pairs_keep (λ n. not (eqb n s)) ascending) i j 0

  pub listed_in : (i : ℕ) → i < length numbers → is_there numbers i ≡ true → Memᴰ i (listed numbers)
  unfolding listed
  listed_in i h e = mem_keep (is_there numbers) i (mem_range 0 (length numbers) i (omega arith) (omega arith)) e

  pub left_in : (s i : ℕ) → i < length numbers → is_there numbers i ≡ true → (i ≡ s → ⊥) → Memᴰ i (but_one s (listed numbers))
  left_in s i h e n = mem_keep (λ n. not (eqb n s)) i (listed_in i h e) (ap not (ne_eqb i s n))

  pub in_listed : (i : ℕ) → Memᴰ i (listed numbers) → i < length numbers
  unfolding listed
  in_listed i m =
      let r = range_mem 0 (length numbers) i (keep_mem (is_there numbers) (range 0 (length numbers)) i m).0 in
      omega arith

-- where each has its own number, all are listed
pub listed_all : (n : List ℕ) (k : ℕ) → n ≡ range 0 k → listed n ≡ n
unfolding listed
listed_all n k e =
    ap (λ m. keep (is_there n) (range 0 m)) (ap length e ∙ length_range 0 k)
    ∙ all_kept (is_there n) 0 k (λ i l u. eq-eqb (get_or n i 0) i (ap (λ l. get_or l i 0) e ∙ get_or_range 0 k i 0 (omega arith) ∙ zero-add i))
    ∙ sym e

-- a search reads a list of some of them
module _ {numbers sizes bits : List ℕ} (tables : Mergeable numbers sizes bits) (l : List ℕ) where
  pub readable : ((i : ℕ) → Memᴰ i l → Memᴰ i (listed numbers)) → Readable l sizes
  readable some = record {
    inside = λ i h. omega (arith, in_listed numbers (get_or l i 0) (some (get_or l i 0) (get_or_mem l i 0 h)), tables.sizes_fit);
    exact = λ i h. small_size tables i (omega (arith, tables.sizes_fit));
  }

-- the list after s has joined t
pub listed_joined : (s t : Subgroup) (numbers sizes bits : List ℕ) → Joinable s t numbers sizes bits → (n z b : List ℕ) → JoinedTables s t numbers sizes bits n z b
    → listed n ≡ but_one s.number (listed numbers)
unfolding listed
listed_joined s t numbers sizes bits g n z b after =
    ap (λ k. keep (is_there n) (range 0 k)) (joined_count s t numbers sizes bits g n z b after)
    ∙ keep_same (is_there n) (λ i. is_there numbers i && not (eqb i s.number)) (range 0 (length numbers))
    (λ i m. let r = range_mem 0 (length numbers) i m in there_now s t numbers sizes bits g n z b after i (omega arith))
    ∙ sym (keep_keep (λ i. not (eqb i s.number)) (is_there numbers) (range 0 (length numbers)))

-- a join leaves the first words of the others as they were
pub first_word_kept : (s t : Subgroup) (numbers sizes bits : List ℕ) (g : Joinable s t numbers sizes bits) (n z b : List ℕ)
    → JoinedTables s t numbers sizes bits n z b → Sound numbers sizes bits
    → (i : ℕ) → Memᴰ i (but_one s.number (listed numbers)) → (i ≡ t.number → ⊥) → get_or b (4 * i) 0 ≡ get_or bits (4 * i) 0
first_word_kept s t numbers sizes bits g n z b after sound i m not_t =
    let k = keep_mem (λ n. not (eqb n s.number)) (listed numbers) i m in
    let inside : i < length numbers = in_listed numbers i k.0 in
    let tables = (joined_sound s t numbers sizes bits g n z b after sound).tables in
    let same = joined_count s t numbers sizes bits g n z b after in
    let not_s = eqb-false i s.number (not-true (eqb i s.number) k.1) in
    ap (λ (r : BitSet). word_at r 0) (row_reads b i (omega (arith, same, tables.bits_fit)))
    ∙ ap (λ (r : BitSet). word_at r 0) (row_of_other s t numbers sizes bits g n z b after i inside not_s not_t)
    ∙ sym (ap (λ (r : BitSet). word_at r 0) (row_reads bits i (omega (arith, g.tables.bits_fit))))
