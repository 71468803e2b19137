-- Where a walk found its starts alone, the starts that are marked are all that is marked, and in execution order: their places rise.
use Prim.Native.Nat.{ℕ, ◌<◌}
use mathlib.Core.Bool.{Bool, true}
use mathlib.Core.List.Memᴰ
use mathlib.Core.List.{List, map, map-map, Memᴰ}
use mathlib.Core.Path.{◌≡◌, sym, ap, ◌∙◌, subst}
use native.Mathlib.Omega.{arith}
use borrow.Author.Tests.{eqb-true, lt-ltb}
use lib.Dec.{eqb, ltb}
use lib.ListN.{length, get_or}
use Rattle.lists.specs.Keep.{keep}
use Rattle.lists.specs.Packed.{item_of}
use Rattle.lists.specs.Range.{range}
use Rattle.lists.proofs.KeepTests.{keep_map}
use Rattle.lists.proofs.Map.{map_get_or_range}
use Rattle.lists.proofs.Members.{keep_mem, mem_keep, range_mem, mem_range}
use Rattle.lists.proofs.Pairs.{pairs_keep}
use Rattle.lists.proofs.Position.{mem_get_or}
use Rattle.lists.proofs.Sort.{Pairs, pairs_weaker, pairs_kept, keys_same}
use Rattle.sets.specs.Built.{start_at, starts_of, Placed}
use Rattle.sets.specs.Gathered.{marked_in, PlacesAre}

module _ (order place run marks : List ℕ) (are : PlacesAre order place) (placed : Placed run order) (rising : Pairs ◌<◌ (map item_of run))
    (among : (i : ℕ) → i < length order → get_or marks (get_or order i 0) 0 ≡ 1 → Memᴰ (get_or order i 0) (starts_of order run)) where
  abbrev at : ℕ → ℕ
  at p = get_or order p 0

  abbrev items : List ℕ
  items = map item_of run

  abbrev all : List ℕ
  all = range 0 (length order)

  abbrev is_marked : ℕ → Bool
  is_marked m = eqb (get_or marks m 0) 1

  abbrev marked_at : ℕ → Bool
  marked_at p = is_marked (at p)

  start_in : (x : ℕ) → Memᴰ x run → item_of x < length order
  start_in x m = let i = mem_get_or 0 m in subst (λ (x : ℕ). item_of x < length order) i.2 (placed i.0 i.1)

  item_in : (p : ℕ) → Memᴰ p items → p < length order
  item_in p m = let o = Memᴰ.of_map item_of run m in subst (λ (x : ℕ). x < length order) o.2 (start_in o.0 o.1)

  -- no module stands at two places
  in_items : (p : ℕ) → p < length order → Memᴰ (at p) (starts_of order run) → Memᴰ p items
  in_items p u m =
      let o = Memᴰ.of_map (start_at order) run m in
      let same : item_of o.0 ≡ p =
      sym (are.at (item_of o.0) (start_in o.0 o.1)) ∙ ap (λ (k : ℕ). get_or place k 0) o.2 ∙ are.at p u in
      Memᴰ.cast (sym same) (Memᴰ.map item_of o.1)

  same_places : keep marked_at items ≡ keep marked_at all
  same_places =
      keys_same (λ n. n) (keep marked_at items) (keep marked_at all)
      (pairs_keep marked_at (pairs_weaker (λ x y l. lt-ltb x y l) rising))
      (pairs_kept (λ x y. ltb x y ≡ true) marked_at 0 (length order) (λ x y l u e f. lt-ltb x y l)) there back
    where
      there : (p : ℕ) → Memᴰ p (keep marked_at items) → Memᴰ p (keep marked_at all)
      there p m =
          let k = keep_mem marked_at items p m in
          let u = item_in p k.0 in
          mem_keep marked_at p (mem_range 0 (length order) p (omega arith) (omega arith)) k.1

      back : (p : ℕ) → Memᴰ p (keep marked_at all) → Memᴰ p (keep marked_at items)
      back p m =
          let k = keep_mem marked_at all p m in
          let r = range_mem 0 (length order) p k.0 in
          let u : p < length order = omega arith in
          mem_keep marked_at p (in_items p u (among p u (eqb-true (get_or marks (at p) 0) 1 k.1))) k.1

  pub alone_marked : marked_in marks (starts_of order run) ≡ marked_in marks order
  unfolding marked_in
  alone_marked =
      ap (keep is_marked) (sym (map-map at item_of run))
      ∙ keep_map is_marked at items
      ∙ ap (map at) same_places
      ∙ sym (keep_map is_marked at all)
      ∙ ap (keep is_marked) (map_get_or_range order 0)
