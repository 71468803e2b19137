-- The modules of a subgroup in the order: those of the set that have ended as its number. The lowest ranks along the order ascend, and its positions
-- are in the set.
use Rattle.std.proofs.Common.{◌≡◌, ℕ, ◌<◌, ◌≤◌, Bool, false, eqb, List, map, length, get_or, sym, ap, ◌∙◌, subst, arith, ltb-false, le-ltb, eqb-true}
use mathlib.Core.List.{map-map, Memᴰ}
use lib.Ieee.{Float}
use lib.ListN.{length-map}
use Rattle.lists.specs.Keep.{keep}
use Rattle.lists.specs.Packed.{key_of, item_of}
use Rattle.lists.specs.Range.{range}
use Rattle.lists.specs.Sort.{sort_by}
use Rattle.lists.proofs.KeepTests.{keep_same, keep_map}
use Rattle.lists.proofs.Map.{map_get_or_range}
use Rattle.lists.proofs.Members.{range_mem, mem_range, keep_mem, map_same}
use Rattle.lists.proofs.Orders.{key_order}
use Rattle.lists.proofs.Packed.{key_packed, item_packed}
use Rattle.lists.proofs.Runs.{Ascending}
use Rattle.lists.proofs.Sort.{lower, pairs_map, pairs_kept, sort_mem, mem_sort}
use Rattle.lists.proofs.SortKeep.{sort_keep}
use Rattle.lists.proofs.Sorted.{sorted_fixed, sort_sorts}
use Rattle.division.specs.Divided.{position_key, lowest_rank, modules_of, lowest_at, divided}
use Rattle.subgroups.specs.Kinds.{kinds_in, kind_of_module}
use Rattle.subgroups.specs.Merged.{merged_kinds, Processed}
use Rattle.subgroups.specs.Items.{modules_in, lowest_in, turn_key}
use Rattle.subgroups.proofs.Numbered.{still, key_is, key_still, still_below, has_position}

module _ (bits sizes set rank : List ℕ) (few : length set ≤ 4096) (threshold : Float) (kind-bits order : List ℕ)
    (done : Processed bits sizes set rank threshold kind-bits order) where
  abbrev kind_of : List ℕ
  kind_of = map (kind_of_module bits (kinds_in bits set)) set

  abbrev numbers : List ℕ
  numbers = (merged_kinds bits sizes set threshold).finals

  abbrev key : ℕ → ℕ
  key i = get_or numbers (get_or kind_of i 0) 0

  abbrev entry : ℕ → ℕ
  entry = position_key numbers kind_of

  abbrev positions : List ℕ
  positions = range 0 (length kind_of)

  -- the lowest rank in the subgroup of position i
  abbrev low : ℕ → ℕ
  low = lowest_at numbers kind_of set rank

  sorted : order ≡ map entry (sort_by (lower low) positions)
  unfolding divided
  sorted = done.order_is

  within : (i : ℕ) → Memᴰ i positions → i < length set
  within i m = let w = range_mem 0 (length kind_of) i m in omega (arith, length-map set (kind_of_module bits (kinds_in bits set)))

  number_of_lem : (i : ℕ) → Memᴰ i positions → key_of (entry i) ≡ key i
  number_of_lem i m = key_packed (key i) i (omega (arith, within i m))

  -- ---- the modules of a subgroup

  in_order : (s : ℕ) → keep (λ i. eqb (key i) s) (sort_by (lower low) positions) ≡ keep (λ i. eqb (key i) s) positions
  unfolding lowest_at
  in_order s =
      let mine : ℕ → Bool = λ i. eqb (key i) s in
      sort_keep (lower low) mine (key_order low) positions
      ∙ sorted_fixed (lower low)
      (pairs_kept (λ i j. lower low j i ≡ false) mine 0 (length kind_of)
      (λ i j h u p q. le-ltb (low j) (low i)
      (let e : low i ≡ low j = ap (λ n. lowest_rank rank (modules_of numbers kind_of set (length kind_of) n)) (eqb-true (key i) s p ∙ sym (eqb-true (key j) s q)) in
      omega (arith, e))))

  modules_of_lem : (s : ℕ) → modules_in set order s ≡ modules_of numbers kind_of set (length kind_of) s
  unfolding modules_of
  modules_of_lem s =
      let all : List ℕ = sort_by (lower low) positions in
      let mine : ℕ → Bool = λ i. eqb (key i) s in
      let at : (i : ℕ) → Memᴰ i all → Memᴰ i positions = sort_mem (lower low) positions in
      ap (λ (l : List ℕ). map (λ x. get_or set (item_of x) 0) (keep (λ x. eqb (key_of x) s) l)) sorted
      ∙ ap (map (λ x. get_or set (item_of x) 0))
      (keep_map (λ x. eqb (key_of x) s) entry all
      ∙ ap (map entry) (keep_same (λ i. eqb (key_of (entry i)) s) mine all (λ i m. ap (λ n. eqb n s) (number_of_lem i (at i m))) ∙ in_order s))
      ∙ map-map (λ x. get_or set (item_of x) 0) entry (keep mine positions)
      ∙ map_same (λ i. get_or set (item_of (entry i)) 0) (λ i. get_or set i 0) (keep mine positions)
      (λ i m. ap (λ n. get_or set n 0) (item_packed (key i) i (omega (arith, within i (keep_mem mine positions i m).0))))

  -- the modules of subgroup s
  pub modules_are : (s : ℕ) → modules_in set order s ≡ keep (λ m. eqb (get_or numbers (kind_of_module bits (kinds_in bits set) m) 0) s) set
  unfolding modules_of
  modules_are s =
      let ends : ℕ → Bool = λ m. eqb (get_or numbers (kind_of_module bits (kinds_in bits set) m) 0) s in
      let mine : ℕ → Bool = λ i. eqb (key i) s in
      modules_of_lem s
      ∙ ap (map (λ i. get_or set i 0))
      (keep_same mine (λ i. ends (get_or set i 0)) positions
      (λ i m. ap (λ (n : ℕ). eqb n s) (key_is bits sizes set rank few threshold kind-bits order done i (within i m)))
      ∙ ap (λ (n : ℕ). keep (λ i. ends (get_or set i 0)) (range 0 n)) (length-map set (kind_of_module bits (kinds_in bits set))))
      ∙ sym (keep_map ends (λ i. get_or set i 0) (range 0 (length set)))
      ∙ ap (keep ends) (map_get_or_range set 0)

  -- ---- along the order

  lowest_of : (i : ℕ) → Memᴰ i positions → turn_key set rank order (entry i) ≡ low i
  unfolding lowest_at
  lowest_of i m = ap (λ n. lowest_in set rank order n) (number_of_lem i m) ∙ ap (lowest_rank rank) (modules_of_lem (key i))

  pub order_ascends : Ascending (turn_key set rank order) order
  order_ascends =
      subst (λ l. Ascending (turn_key set rank order) l) (sym sorted)
      (pairs_map (λ i j. lower low j i ≡ false) (λ x y. turn_key set rank order x ≤ turn_key set rank order y) entry
      (λ i j m n e.
      let t : low i ≤ low j = ltb-false (low j) (low i) e in
      omega (arith, lowest_of i (sort_mem (lower low) positions i m), lowest_of j (sort_mem (lower low) positions j n)))
      (sort_sorts (lower low) (key_order low) positions))

  position_of : (x : ℕ) → Memᴰ x order → (i : ℕ) × Memᴰ i positions × (entry i ≡ x)
  position_of x m =
      let o = mathlib.Core.List.Memᴰ.of_map entry (sort_by (lower low) positions) (subst (λ l. Memᴰ x l) sorted m) in
      (o.0, sort_mem (lower low) positions o.0 o.1, o.2)

  pub position_within : (x : ℕ) → Memᴰ x order → item_of x < length set
  position_within x m =
      let o = position_of x m in
      let h = within o.0 o.1 in
      let e : item_of x ≡ o.0 = ap item_of (sym o.2) ∙ item_packed (key o.0) o.0 (omega arith) in
      omega arith

  pub number_still : (x : ℕ) → Memᴰ x order → Memᴰ (key_of x) (still bits sizes set rank few threshold kind-bits order done)
  number_still x m =
      let o = position_of x m in
      mathlib.Core.List.Memᴰ.cast (ap key_of (sym o.2) ∙ number_of_lem o.0 o.1) (key_still bits sizes set rank few threshold kind-bits order done o.0 (within o.0 o.1))

  pub number_below : (x : ℕ) → Memᴰ x order → key_of x < length (kinds_in bits set)
  number_below x m = still_below bits sizes set rank few threshold kind-bits order done (key_of x) (number_still x m)

  -- a subgroup that is still there has an entry
  pub still_entry : (s : ℕ) → Memᴰ s (still bits sizes set rank few threshold kind-bits order done) → (x : ℕ) × Memᴰ x order × (key_of x ≡ s)
  still_entry s m =
      let o = has_position bits sizes set rank few threshold kind-bits order done s m in
      let i : Memᴰ o.0 positions =
      mem_range 0 (length kind_of) o.0 (omega arith) (omega (arith, length-map set (kind_of_module bits (kinds_in bits set)), o.1)) in (
        entry o.0,
        subst (λ l. Memᴰ (entry o.0) l) (sym sorted) (mathlib.Core.List.Memᴰ.map entry (mem_sort (lower low) positions o.0 i)),
        number_of_lem o.0 i ∙ o.2,
      )
