-- The number that each position ends as is that of a subgroup that is still there, and each of these has a position.
use Rattle.std.proofs.Common.{◌≡◌, ℕ, ◌*◌, ◌<◌, ◌≤◌, List, map, length, get_or, take, sym, refl, ap, ◌∙◌, subst, arith, eqb-true}
use mathlib.Core.List.Memᴰ
use mathlib.Core.List.{Memᴰ}
use lib.Ieee.{Float}
use lib.ListN.{length-map}
use Rattle.lists.specs.Keep.{keep}
use Rattle.lists.specs.Range.{range}
use Rattle.lists.proofs.Map.{get_or_map_below}
use Rattle.lists.proofs.Members.{keep_mem, range_mem}
use Rattle.lists.proofs.Position.{get_or_mem, mem_get_or}
use Rattle.lists.proofs.Range.{length_range}
use Rattle.bitset.specs.Entries.{empty, row_of}
use Rattle.bitset.specs.declared.entries.BitSet.{BitSet}
use Rattle.joins.specs.Subgroup.{Subgroup}
use Rattle.merge.specs.Merge.{Merging}
use Rattle.merge.specs.Tables.{subgroup_at, final_sizes}
use Rattle.merge.specs.Engine.{is_there, there_in}
use Rattle.grouping.specs.Subgroups.{same_bits}
use Rattle.grouping_laws.proofs.BitKinds.{same_refl, kind_in}
use Rattle.merge.proofs.FinalNumbers.{Ended, merged_ended}
use Rattle.subgroups.specs.Kinds.{kinds_in, kind_of_module}
use Rattle.subgroups.specs.Merged.{subgroup_of_kind, merged_kinds, Processed}
use Rattle.subgroups.proofs.Counting.{has_own}
use Rattle.subgroups.proofs.Merging.{kinds_few}
use Rattle.subgroups.proofs.OneMore.{number_less}
use Rattle.subgroups.proofs.Positions.{kind_at}

module _ (bits sizes set rank : List ℕ) (few : length set ≤ 4096) (threshold : Float) (kind-bits order : List ℕ)
    (done : Processed bits sizes set rank threshold kind-bits order) where
  abbrev kinds : List BitSet
  kinds = kinds_in bits set

  abbrev result : Merging
  result = merged_kinds bits sizes set threshold

  abbrev numbers : List ℕ
  numbers = result.finals

  -- the number that position i ends as
  abbrev key : ℕ → ℕ
  key i = get_or numbers (get_or (map (kind_of_module bits kinds) set) i 0) 0

  abbrev pub still : List ℕ
  still = keep (is_there numbers) (range 0 (length numbers))

  -- ---- the merge

  ended : Ended (length kinds) result
  unfolding merged_kinds
  ended =
      merged_ended (length kinds) threshold (record { there = map (subgroup_of_kind bits sizes set) (range 0 (length kinds)); finals = range 0 (length kinds) })
      (record {
        entries = length_range 0 (length kinds);
        ended = λ n m. (subgroup_of_kind bits sizes set n, Memᴰ.map (subgroup_of_kind bits sizes set) m, refl);
      })

  -- the subgroup of a row
  abbrev at : ℕ → Subgroup
  at = subgroup_at (final_sizes (length kinds) result) (take (4 * length kinds) kind-bits)

  -- the subgroups that are still there, by the tables
  pub there_are : result.there ≡ map at still
  unfolding there_in
  there_are = sym (ap (λ (m : Merging). m.there) done.state)

  pub numbers_count : length numbers ≡ length kinds
  numbers_count = ended.entries

  pub still_below : (s : ℕ) → Memᴰ s still → s < length kinds
  still_below s m =
      let w = range_mem 0 (length numbers) s (keep_mem (is_there numbers) (range 0 (length numbers)) s m).0 in
      omega (arith, numbers_count)

  final_still : (n : ℕ) → Memᴰ n numbers → Memᴰ n still
  unfolding subgroup_at
  final_still n m =
      let s = ended.ended n m in
      let o = Memᴰ.of_map at still (subst (λ l. Memᴰ s.0 l) there_are s.1) in
      Memᴰ.cast (sym s.2 ∙ sym (ap (λ (u : Subgroup). u.number) o.2)) o.1

  -- ---- the positions

  length_numbers : length (map (kind_of_module bits kinds) set) ≡ length set
  length_numbers = length-map set (kind_of_module bits kinds)

  pub key_is : (i : ℕ) → i < length set → key i ≡ get_or numbers (kind_of_module bits kinds (get_or set i 0)) 0
  key_is i h = ap (λ (k : ℕ). get_or numbers k 0) (get_or_map_below (kind_of_module bits kinds) set i 0 0 h)

  pub key_still : (i : ℕ) → i < length set → Memᴰ (key i) still
  key_still i h =
      let m = get_or set i 0 in
      let k : kind_of_module bits kinds m < length numbers =
      omega (arith, number_less kinds (row_of bits m) (has_own bits set m (get_or_mem set i 0 h)), ended.entries) in
      final_still (key i) (Memᴰ.cast (key_is i h) (get_or_mem numbers (kind_of_module bits kinds m) 0 k))

  -- a subgroup that is still there has a position: that of a module of its own kind
  pub has_position : (s : ℕ) → Memᴰ s still → (i : ℕ) × (i < length set) × (key i ≡ s)
  has_position s m =
      let e : get_or numbers s 0 ≡ s = eqb-true (get_or numbers s 0) s (keep_mem (is_there numbers) (range 0 (length numbers)) s m).1 in
      let w : s < length kinds = still_below s m in
      let o = Memᴰ.of_map (row_of bits) set (kind_in (length set) (map (row_of bits) set) (get_or kinds s empty) (get_or_mem kinds s empty w)) in
      let at = mem_get_or 0 o.1 in
      let own : kind_of_module bits kinds o.0 ≡ s =
      eqb-true (kind_of_module bits kinds o.0) s (sym (kind_at bits sizes set s o.0 w)
      ∙ ap (same_bits (get_or kinds s empty)) o.2 ∙ same_refl (get_or kinds s empty)) in
      (at.0, at.1, key_is at.0 at.1 ∙ ap (λ (n : ℕ). get_or numbers (kind_of_module bits kinds n) 0) at.2 ∙ ap (λ (k : ℕ). get_or numbers k 0) own ∙ e)

  pub at_most : length kinds ≤ length set
  at_most = omega (arith, kinds_few (length set) (map (row_of bits) set), length-map set (row_of bits))
