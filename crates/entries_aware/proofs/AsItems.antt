-- The subgroups of a divided set as items of a build: their places and their modules.
use Prim.Native.Nat.{ℕ, ◌^◌, ◌≤◌}
use mathlib.Core.List.{List, map}
use mathlib.Core.Path.{◌≡◌, sym, ap, ◌∙◌, subst, subst₂}
use native.Mathlib.Omega.{arith}
use lib.ListN.{length, length-map}
use Rattle.lists.specs.Sum.{sum}
use Rattle.lists.proofs.Members.{keep_mem}
use Rattle.lists.proofs.Pairs.{pairs_keep}
use Rattle.options.specs.declared.Settings.{Settings}
use Rattle.grouping.specs.Given.{Given}
use Rattle.grouping.specs.Tree.{tree_of, places_of}
use Rattle.grouping.specs.Item.{Item}
use Rattle.grouping.specs.Subgroups.{places_ended, divided_items}
use Rattle.grouping_laws.proofs.SetPlaces.{Placed}
use Rattle.settling.specs.Modules.{module_at, modules_at}
use Rattle.settling.specs.Traversal.{in_turn}
use Rattle.items.specs.Turn.{Tables}
use Rattle.running.specs.Fits.{ItemFits}
use Rattle.running.proofs.ModulesAt.{modules_exact}
use Rattle.subgroups.specs.Kinds.{sizes_of}
use Rattle.subgroups.specs.Merged.{Processed}
use Rattle.subgroups.specs.Items.{modules_in, turns_in, number_of, item_numbered}
use Rattle.subgroups.proofs.DividedItems.{item_modules}
use Rattle.subgroups.proofs.ItemsInTurn.{items_in_turn}
use Rattle.entries_aware.proofs.SetRanks.{ranks_by_id, own_ranks}

module _ (r : Settings) (g name : ℕ) (t : Tables) (bits set rows order : List ℕ) (few : length set ≤ 4096)
    (done : Processed bits t.sizes set t.rank r.threshold rows order)
    (b : Given) (fits : ItemFits b t bits) (places : List ℕ) (placed : Placed (length (places_of b)) places) (are : set ≡ modules_at b places) where
  -- the item of subgroup s
  abbrev item : ℕ → Item
  item s = item_numbered r g name (tree_of b) places rows s

  of_build : Processed b.shared.bits b.shared.sizes (modules_at b places) t.rank r.threshold rows order
  of_build =
      subst₂ (λ (w z : List ℕ). Processed w z (modules_at b places) t.rank r.threshold rows order) fits.words fits.sizes
      (subst (λ (l : List ℕ). Processed bits t.sizes l t.rank r.threshold rows order) are done)

  few_places : length places ≤ 4096
  few_places = omega (arith, ap length are, length-map places (module_at b))

  exact : sum (sizes_of b.shared.sizes (modules_at b places)) ≤ 2 ^ 53
  exact = modules_exact b fits.passed places placed

  pub items_are : in_turn (tree_of b) (divided_items r g name (tree_of b) places) ≡ map (λ k. item (number_of set t.rank order k)) (turns_in set t.rank order order)
  items_are =
      items_in_turn b places placed.below few_places r exact t.rank rows order of_build (own_ranks t bits b fits places placed)
      (ranks_by_id t bits b fits places placed) g name
      ∙ ap (λ (l : List ℕ). map (λ k. item (number_of l t.rank order k)) (turns_in l t.rank order order)) (sym are)

  module _ (s : ℕ) where
    pub item_placed : Placed (length (places_of b)) (item s).places
    unfolding places_ended
    item_placed = record { ascend = pairs_keep _ placed.ascend; below = λ p m. placed.below p (keep_mem _ places p m).0 }

    pub modules_in_lem : modules_in set order s ≡ modules_at b (item s).places
    modules_in_lem =
        ap (λ (l : List ℕ). modules_in l order s) are
        ∙ sym (item_modules b places placed.below few_places r exact t.rank rows order of_build g name s)
