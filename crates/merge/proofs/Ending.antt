-- Sound tables are what a merge in their state writes: the size and the bits of each subgroup still there, and zeros for the others.
use Prim.Native.Nat.{ℕ, ◌+◌, ◌<◌}
use mathlib.Core.Bool.{Bool, true, false}
use mathlib.Core.List.{List, [], map}
use mathlib.Core.Option.{Option, none, some}
use mathlib.Core.Path.{◌≡◌, refl, sym, ap, ◌∙◌, subst}
use native.Mathlib.Nat.{zero-add}
use native.Mathlib.Omega.{arith}
use lib.Dec.{eqb}
use lib.ListN.{length, get_or}
use Rattle.lists.specs.Keep.{keep, keep_head}
use Rattle.lists.specs.Least.{least}
use Rattle.lists.specs.Range.{range}
use Rattle.lists.proofs.Range.{map_range}
use Rattle.lists.proofs.Map.{map_get_or_range}
use Rattle.bitset.specs.Entries.{row_of}
use Rattle.joins.specs.Subgroup.{Subgroup, smaller}
use Rattle.joins.proofs.Doubles.{reads_back}
use Rattle.merge.specs.Merge.{Merging}
use Rattle.merge.specs.Tables.{subgroup_at, still_there, size_of, bits_of, final_sizes, final_bits}
use Rattle.merge.specs.Engine.{is_there, there_in, state_of, Sound, Final}
use Rattle.merge.proofs.There.{small_size}
use Rattle.bitset.proofs.Rows.{all_rows, same_rows}
use Rattle.seeking.proofs.Kept.{keep_one}
use Rattle.lists.proofs.KeepTests.{keep_map, keep_keep}

-- the subgroup, if it is still there
found : Bool → Subgroup → Option Subgroup
found true u = some u
found false u = none

module _ (numbers sizes bits : List ℕ) (z : Sound numbers sizes bits) where
  one_left : (b : Bool) (i : ℕ) → least smaller (map (subgroup_at sizes bits) (keep_head b i [])) ≡ found b (subgroup_at sizes bits i)
  unfolding keep_head least found
  one_left true i = refl
  one_left false i = refl

  still : (i : ℕ) → i < length numbers → still_there i (there_in numbers sizes bits) ≡ found (is_there numbers i) (subgroup_at sizes bits i)
  unfolding still_there there_in subgroup_at
  still i h =
      ap (least smaller) (
      keep_map (λ u. eqb u.number i) (subgroup_at sizes bits) (keep (is_there numbers) (range 0 (length numbers)))
      ∙ ap (map (subgroup_at sizes bits)) (keep_keep (λ j. eqb j i) (is_there numbers) (range 0 (length numbers)) ∙ keep_one (is_there numbers) i 0 (length numbers) (omega arith) (omega arith)))
      ∙ one_left (is_there numbers i) i

  -- whose number is i, if it is still there
  pub found_there : (i : ℕ) → i < length numbers → is_there numbers i ≡ true → still_there i (there_in numbers sizes bits) ≡ some (subgroup_at sizes bits i)
  unfolding found
  found_there i h e = still i h ∙ ap (λ b. found b (subgroup_at sizes bits i)) e

  size_of_lem : (i : ℕ) → i < length numbers → (b : Bool) → is_there numbers i ≡ b → size_of (found b (subgroup_at sizes bits i)) ≡ get_or sizes i 0
  unfolding found subgroup_at
  size_of_lem i h true e = reads_back (get_or sizes i 0) (small_size z.tables i h)
  size_of_lem i h false e = sym (z.no_size i h e)

  bits_of_lem : (i : ℕ) → i < length numbers → (b : Bool) → is_there numbers i ≡ b → bits_of (found b (subgroup_at sizes bits i)) ≡ row_of bits i
  unfolding found subgroup_at
  bits_of_lem i h true e = refl
  bits_of_lem i h false e = sym (z.no_bits i h e)

  sizes_final : final_sizes (length numbers) (state_of numbers sizes bits) ≡ sizes
  unfolding final_sizes
  sizes_final =
      map_range (λ i. size_of (still_there i (there_in numbers sizes bits))) (λ i. get_or sizes i 0) 0 (length numbers)
      (λ i h.
      let is : 0 + i ≡ i = zero-add i in
      ap (λ j. size_of (still_there j (there_in numbers sizes bits))) is ∙ ap size_of (still i h) ∙ size_of_lem i h (is_there numbers i) refl ∙ ap (λ j. get_or sizes j 0) (sym is))
      ∙ ap (λ k. map (λ i. get_or sizes i 0) (range 0 k)) (sym z.tables.sizes_fit)
      ∙ map_get_or_range sizes 0

  bits_final : final_bits (length numbers) (state_of numbers sizes bits) ≡ bits
  unfolding final_bits
  bits_final =
      same_rows (λ i. bits_of (still_there i (there_in numbers sizes bits))) (row_of bits) 0 (length numbers)
      (λ i l u. let h : i < length numbers = omega arith in ap bits_of (still i h) ∙ bits_of_lem i h (is_there numbers i) refl)
      ∙ all_rows bits (length numbers) z.tables.bits_fit

  final : Final (length numbers) (state_of numbers sizes bits) numbers sizes bits
  final = record { final_numbers = refl; final_sizes = sym sizes_final; final_bits = sym bits_final }

-- tables whose state is m are what m leaves
pub final_of : (k : ℕ) (m : Merging) (n z b : List ℕ) → length n ≡ k → state_of n z b ≡ m → Sound n z b → Final k m n z b
final_of k m n z b same e sound = subst (λ j. Final j m n z b) same (subst (λ m. Final (length n) m n z b) e (final n z b sound))
