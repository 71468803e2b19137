-- The tables of the kinds, merged in place: the merge is that of the set's kinds, and the positions are divided by its numbers.
use Rattle.std.proofs.Common.{◌≡◌, ℕ, zero, suc, ◌+◌, ◌*◌, ◌<◌, ◌≤◌, Bool, not, List, [], ◌∷◌, ◌++◌, map, length, get_or, take, drop, sym, refl, ap, ◌∙◌, ap₂, zero-add, arith, length-append, length-take-le, take-take, take_at}
use lib.Ieee.{Float}
use lib.ListN.{length-map, get_or-append}
use Rattle.lists.specs.Keep.{keep}
use Rattle.lists.specs.Range.{range}
use Rattle.lists.proofs.KeepLength.{keep_le}
use Rattle.lists.proofs.Map.{get_or_map_below}
use Rattle.lists.proofs.Position.{get_or_mem}
use Rattle.lists.proofs.Range.{length_range, get_or_range, map_range}
use Rattle.division.specs.Divided.{divided, Divisible}
use Rattle.division.proofs.SameNumbers.{divided_same}
use Rattle.whole.specs.Double.{to_f64}
use Rattle.bitset.specs.Entries.{empty, row_of}
use Rattle.bitset.specs.declared.entries.BitSet.{BitSet}
use Rattle.joins.specs.Subgroup.{Subgroup}
use Rattle.merge.specs.Merge.{Merging, merged}
use Rattle.merge.specs.Tables.{subgroup_at, start, merge_of, final_sizes, Mergeable}
use Rattle.merge.specs.Engine.{state_of, Final}
use Rattle.merge.proofs.Laws.{final_below}
use Rattle.grouping.specs.Subgroups.{same_bits, kinds_of}
use Rattle.subgroups.specs.Kinds.{rows_of, kinds_in, kind_of_module, size_of_kind}
use Rattle.subgroups.specs.Finding.{Members, KindsFound}
use Rattle.subgroups.specs.Merged.{subgroup_of_kind, merged_kinds, Ranked, Processed}
use Rattle.subgroups.proofs.Counting.{has_own}
use Rattle.subgroups.proofs.Entering.{length_rows}
use Rattle.subgroups.proofs.FinalState.{final_state}
use Rattle.subgroups.proofs.OneMore.{number_less}

-- there are at most as many kinds as bits
pub kinds_few : (most : ℕ) (l : List BitSet) → length (kinds_of most l) ≤ length l
unfolding kinds_of
kinds_few zero l = omega arith
kinds_few (suc most) [] = omega arith
kinds_few (suc most) (b ∷ l) =
    let others : BitSet → Bool = λ c. not (same_bits b c) in
    omega (arith, kinds_few most (keep others l), keep_le others l)

-- a part within the first n elements
part_take : (k a n : ℕ) (l : List ℕ) → a + k ≤ n → take k (drop a (take n l)) ≡ take k (drop a l)
part_take k zero n l h = take-take k n l (omega arith)
part_take k (suc a) zero l h = absurd (omega arith)
part_take k (suc a) (suc n) [] h = refl
part_take k (suc a) (suc n) (x ∷ l) h = part_take k a n l (omega arith)

pub row_take : (n : ℕ) (table : List ℕ) (i : ℕ) → 4 * i + 4 ≤ n → row_of (take n table) i ≡ row_of table i
unfolding row_of
row_take n table i h = ap {B = BitSet} (λ (l : List ℕ). record { words = l }) (part_take 4 (4 * i) n table h)

module _ (bits sizes set : List ℕ) (given : Members bits sizes set) (threshold : Float) (r : ℕ) (kind_of kind_sizes kind-bits : List ℕ)
    (found : KindsFound bits sizes set r kind_of kind_sizes kind-bits) where
  abbrev kinds : List BitSet
  kinds = kinds_in bits set

  count : r ≡ length kinds
  count = sym (length_rows kind-bits r) ∙ ap length found.kinds

  pub few : r ≤ length set
  few = omega (arith, count, kinds_few (length set) (map (row_of bits) set), length-map set (row_of bits))

  module _ (sizes_room : r ≤ length kind_sizes) (bits_room : 4 * r ≤ length kind-bits) where
    pub mergeable : (numbers : List ℕ) → length numbers ≡ r → Mergeable numbers (take r kind_sizes) (take (4 * r) kind-bits)
    mergeable numbers e = record {
      count = omega (arith, few, given.count);
      sizes_fit = length-take-le r kind_sizes sizes_room ∙ sym e;
      bits_fit = rw e (length-take-le (4 * r) kind-bits bits_room);
      exact = rw found.whole given.exact;
    }

    row_at : (i : ℕ) → i < r → row_of (take (4 * r) kind-bits) i ≡ get_or kinds i empty
    unfolding rows_of
    row_at i h =
        row_take (4 * r) kind-bits i (omega arith)
        ∙ sym (get_or_map_below (row_of kind-bits) (range 0 r) i empty 0 (omega (arith, length_range 0 r))
        ∙ ap (row_of kind-bits) (get_or_range 0 r i 0 h ∙ zero-add i))
        ∙ ap (λ (l : List BitSet). get_or l i empty) found.kinds

    size_at : (i : ℕ) → i < r → get_or (take r kind_sizes) i 0 ≡ size_of_kind bits sizes set (get_or kinds i empty)
    size_at i h =
        ap (λ (l : List ℕ). get_or l i 0) found.totals ∙ get_or_map_below (size_of_kind bits sizes set) kinds i 0 empty (omega (arith, count))

    pub merge_is_kinds : merge_of r (take r kind_sizes) (take (4 * r) kind-bits) threshold ≡ merged_kinds bits sizes set threshold
    unfolding merge_of start merged_kinds subgroup_at
    merge_is_kinds =
        let at : (i : ℕ) → i < r → subgroup_at (take r kind_sizes) (take (4 * r) kind-bits) i ≡ subgroup_of_kind bits sizes set i =
        λ i h. ap₂ {C = Subgroup} (λ (n : ℕ) (b : BitSet). record { number = i; size = to_f64 n; bits = b }) (size_at i h) (row_at i h) in
        ap (λ (l : List Subgroup). merged threshold (record { there = l; finals = range 0 r }))
        (map_range (subgroup_at (take r kind_sizes) (take (4 * r) kind-bits)) (subgroup_of_kind bits sizes set) 0 r (λ i h. at (0 + i) (omega arith)))
        ∙ ap (λ (k : ℕ). merged threshold (record { there = map (subgroup_of_kind bits sizes set) (range 0 k); finals = range 0 k })) count

    -- the numbers before the merge, and what it leaves: its parts of the tables, and the rest of them
    module _ (numbers : List ℕ) (same : length numbers ≡ r) (n z b : List ℕ)
        (final : Final (length numbers) (merge_of (length numbers) (take r kind_sizes) (take (4 * r) kind-bits) threshold) n z b) (rest : List ℕ)
        (length_n : length n ≡ r) where
      result : merge_of (length numbers) (take r kind_sizes) (take (4 * r) kind-bits) threshold ≡ merged_kinds bits sizes set threshold
      result = ap (λ (k : ℕ). merge_of k (take r kind_sizes) (take (4 * r) kind-bits) threshold) same ∙ merge_is_kinds

      numbers_are : n ≡ (merged_kinds bits sizes set threshold).finals
      numbers_are = final.final_numbers ∙ ap (λ (m : Merging). m.finals) result

      pub state_is : state_of n z b ≡ merged_kinds bits sizes set threshold
      state_is = final_state numbers (take r kind_sizes) (take (4 * r) kind-bits) (mergeable numbers same) threshold n z b final ∙ result

      kind_at : (i : ℕ) → i < length kind_of → get_or kind_of i 0 < r
      kind_at i h =
          let w : i < length set = omega (arith, ap length found.numbers, length-map set (kind_of_module bits kinds)) in
          let e : get_or kind_of i 0 ≡ kind_of_module bits kinds (get_or set i 0) =
          ap (λ (l : List ℕ). get_or l i 0) found.numbers ∙ get_or_map_below (kind_of_module bits kinds) set i 0 0 w in
          omega (arith, count, number_less kinds (row_of bits (get_or set i 0)) (has_own bits set (get_or set i 0) (get_or_mem set i 0 w)))

      below : (k : ℕ) → k < r → get_or n k 0 < r
      below k h =
          let f : get_or (merge_of (length numbers) (take r kind_sizes) (take (4 * r) kind-bits) threshold).finals k 0 < length numbers =
          final_below numbers (take r kind_sizes) (take (4 * r) kind-bits) (mergeable numbers same) threshold k (omega arith) in
          omega (arith, ap (λ (l : List ℕ). get_or l k 0) final.final_numbers)

      read : (k : ℕ) → k < r → get_or (n ++ rest) k 0 ≡ get_or n k 0
      read k h = get_or-append n rest 0 k (omega arith)

      sizes_are : z ≡ final_sizes (length kinds) (merged_kinds bits sizes set threshold)
      sizes_are = final.final_sizes ∙ ap₂ final_sizes (same ∙ count) result

      module _ (rank : List ℕ) (ranked : Ranked rank set) where
        same_count : length kind_of ≡ length set
        same_count = ap length found.numbers ∙ length-map set (kind_of_module bits kinds)

        pub can_divide : Divisible (n ++ rest) kind_of set rank
        can_divide = record {
          count = omega (arith, same_count, given.count);
          modules = sym same_count;
          has_final = λ i h. omega (arith, kind_at i h, length-append n rest);
          below = λ i h. let k = kind_at i h in omega (arith, below (get_or kind_of i 0) k, read (get_or kind_of i 0) k, few, same_count);
          has_rank = λ i h. ranked i (omega (arith, same_count));
        }

        order_is : divided (n ++ rest) kind_of set rank
            ≡ divided (merged_kinds bits sizes set threshold).finals (map (kind_of_module bits kinds) set) set rank
        order_is =
            divided_same (n ++ rest) n kind_of set rank (λ i h. read (get_or kind_of i 0) (kind_at i h))
            ∙ ap₂ (λ (f l : List ℕ). divided f l set rank) numbers_are found.numbers

        pub processed : (rest-bits order : List ℕ) → length b ≡ 4 * r → order ≡ divided (n ++ rest) kind_of set rank
            → Processed bits sizes set rank threshold (b ++ rest-bits) order
        processed rest-bits order length-b e =
            let rows : List ℕ = take (4 * length kinds) (b ++ rest-bits) in
            record {
              state =
                  ap₂ (λ (n z : List ℕ). state_of n z rows) (sym numbers_are) (sym sizes_are)
                  ∙ ap (state_of n z) (ap (λ (k : ℕ). take (4 * k) (b ++ rest-bits)) (sym count) ∙ take_at b rest-bits (4 * r) length-b)
                  ∙ state_is;
              order_is = e ∙ order_is;
            }
