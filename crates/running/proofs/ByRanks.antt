-- Ranks sort modules as their ids do: the modules at places, by rank, are the modules at the places in id order.
use Prim.Native.Nat.{ℕ, ◌<◌}
use mathlib.Core.Bool.{Bool, true, false}
use mathlib.Core.List.{List, map, map-map}
use mathlib.Core.Path.{◌≡◌, refl, sym, ap, ap₂, ◌∙◌}
use native.Mathlib.Omega.{arith}
use borrow.Author.Tests.{ltb-true, lt-ltb, le-ltb}
use lib.Dec.{ltb}
use lib.ListN.{length, get_or}
use Rattle.lists.specs.Packed.{item_of}
use Rattle.lists.specs.Sort.{sort_by}
use Rattle.lists.proofs.Members.{map_same}
use Rattle.lists.proofs.Packed.{item_packed}
use Rattle.lists.proofs.Sort.{sort_mem}
use Rattle.lists.proofs.SortMap.{sort_map, sort_same}
use Rattle.ids.specs.Order.{before}
use Rattle.ids.specs.Parts.{id_at}
use Rattle.ids.proofs.ByteOrder.{equal_of_neither}
use Rattle.grouping.specs.Given.{Given}
use Rattle.grouping.specs.Tree.{places_of, tree_of}
use Rattle.grouping.specs.Fate.{in_id_order}
use Rattle.grouping_laws.proofs.OneId.{one_id}
use Rattle.settling.specs.Modules.{Passed, module_at, modules_at}
use Rattle.settling.proofs.SideOrder.{id_before}
use Rattle.oversized.specs.InOrder.{ranked, by_rank}
use Rattle.running.specs.Fits.{Ranks}
use Rattle.running.proofs.Tests.{few_modules}
use Rattle.running.proofs.ModulesAt.{Within, id_at_lem, module_below, module_listed}

module _ (b : Given) (passed : Passed b) (rank : List ℕ) (ranks : Ranks b rank) where
  -- the key of the module at a place
  abbrev key : ℕ → ℕ
  key p = ranked rank (module_at b p)

  small : (p : ℕ) → p < length (places_of b) → module_at b p < 4096
  small p h = omega (arith, module_below b p h, few_modules b passed)

  as_ids : (p q : ℕ) → p < length (places_of b) → q < length (places_of b) → ltb (key p) (key q) ≡ id_before (tree_of b) p q
  as_ids p q u v =
      go (before (id l) (id m)) (before (id m) (id l)) refl refl ∙ sym (ap₂ before (id_at_lem b p u) (id_at_lem b q v))
    where
      id : ℕ → List ℕ
      id = id_at b.shared.bytes b.shared.offsets

      l : ℕ
      l = module_at b p

      m : ℕ
      m = module_at b q

      ordered : ltb (get_or rank l 0) (get_or rank m 0) ≡ before (id l) (id m)
      ordered = ranks.by_id l m (module_below b p u) (module_below b q v) (module_listed b p u) (module_listed b q v)

      reversed : ltb (get_or rank m 0) (get_or rank l 0) ≡ before (id m) (id l)
      reversed = ranks.by_id m l (module_below b q v) (module_below b p u) (module_listed b q v) (module_listed b p u)

      same : before (id l) (id m) ≡ false → before (id m) (id l) ≡ false → l ≡ m
      same e f =
          one_id b passed.ids_apart l m (module_below b p u) (module_below b q v) (module_listed b p u) (module_listed b q v) (equal_of_neither (id l) (id m) e f)

      go : (x y : Bool) → before (id l) (id m) ≡ x → before (id m) (id l) ≡ y → ltb (key p) (key q) ≡ before (id l) (id m)
      go true y e f =
          lt-ltb (key p) (key q) (omega (arith, ltb-true (get_or rank l 0) (get_or rank m 0) (ordered ∙ e), small p u, small q v)) ∙ sym e
      go false true e f =
          le-ltb (key p) (key q) (omega (arith, ltb-true (get_or rank m 0) (get_or rank l 0) (reversed ∙ f), small p u, small q v)) ∙ sym e
      go false false e f = le-ltb (key p) (key q) (omega (arith, ap (ranked rank) (same e f))) ∙ sym e

  pub by_ranks : (places : List ℕ) → Within b places → by_rank rank (modules_at b places) ≡ modules_at b (in_id_order (tree_of b) places)
  unfolding by_rank in_id_order
  by_ranks places h =
      let sorted : List ℕ = sort_by (id_before (tree_of b)) places in
      ap (λ (l : List ℕ). map item_of (sort_by ltb l)) (map-map (ranked rank) (module_at b) places)
      ∙ ap (map item_of) (sort_map ltb key places)
      ∙ ap (λ (l : List ℕ). map item_of (map key l))
      (sort_same (λ p q. ltb (key p) (key q)) (id_before (tree_of b)) places (λ p q i j. as_ids p q (h p i) (h q j)))
      ∙ map-map item_of key sorted
      ∙ map_same (λ p. item_of (key p)) (module_at b) sorted
      (λ p i. item_packed (get_or rank (module_at b p) 0) (module_at b p) (small p (h p (sort_mem (id_before (tree_of b)) places p i))))
