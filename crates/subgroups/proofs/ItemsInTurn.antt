-- Where ranks follow ids, a run meets the items of an entries-aware set in the order of their smallest ids.
use Rattle.std.proofs.Common.{◌≡◌, ℕ, ◌^◌, ◌<◌, ◌≤◌, ltb, List, map, length, get_or, sym, ap, ◌∙◌, subst, ap₂, arith, ltb-false}
use mathlib.Core.List.{map-map, Memᴰ}
use Rattle.lists.specs.Packed.{item_of}
use Rattle.lists.specs.Sort.{sort_by}
use Rattle.lists.specs.Sum.{sum}
use Rattle.lists.proofs.KeepLength.{mem_length}
use Rattle.lists.proofs.Members.{keep_mem}
use Rattle.lists.proofs.Sort.{lower}
use Rattle.lists.proofs.SortMap.{on, sort_map, sort_same}
use Rattle.ids.specs.Order.{before}
use Rattle.division.proofs.LowestHeld.{lowest_held, lowest_most}
use Rattle.options.specs.declared.Settings.{Settings}
use Rattle.grouping.specs.Given.{Given}
use Rattle.grouping.specs.Tree.{Tree, places_of, tree_of, member_at}
use Rattle.grouping.specs.Item.{Item}
use Rattle.grouping.specs.Subgroups.{places_ended, divided_items}
use Rattle.grouping.specs.WorkList.{smallest_id, subgroup_first}
use Rattle.grouping_laws.proofs.SmallestIds.{Held, smallest_held}
use Rattle.settling.specs.Modules.{module_at, modules_at}
use Rattle.settling.specs.Traversal.{in_turn}
use Rattle.subgroups.specs.Kinds.{sizes_of}
use Rattle.subgroups.specs.Merged.{Processed}
use Rattle.subgroups.specs.Items.{modules_in, lowest_in, turns_in, number_of, item_numbered}
use Rattle.subgroups.proofs.RunModules.{still_entry}
use Rattle.subgroups.proofs.TurnOrder.{OwnRanks, has_module, turns_are}
use Rattle.subgroups.proofs.DividedItems.{few_modules, there, divided_items_lem, item_modules}

-- of the modules at two places the one whose id stands first has the lower rank
abbrev pub RanksById : Given → List ℕ → List ℕ → Type 0
RanksById b rank places = (p q : ℕ) → Memᴰ p places → Memᴰ q places
    → ltb (get_or rank (module_at b p) 0) (get_or rank (module_at b q) 0) ≡ before (member_at (tree_of b) p).id (member_at (tree_of b) q).id

module _ (b : Given) (places : List ℕ) (inside : (p : ℕ) → Memᴰ p places → p < length (places_of b)) (few : length places ≤ 4096)
    (r : Settings) (exact : sum (sizes_of b.shared.sizes (modules_at b places)) ≤ 2 ^ 53)
    (rank kind-bits order : List ℕ) (done : Processed b.shared.bits b.shared.sizes (modules_at b places) rank r.threshold kind-bits order)
    (own : OwnRanks rank (modules_at b places)) (by_id : RanksById b rank places) (g name : ℕ) where
  abbrev set : List ℕ
  set = modules_at b places

  abbrev tree : Tree
  tree = tree_of b

  abbrev numbers : List ℕ
  numbers = there b places inside few r exact rank kind-bits order done

  abbrev item : ℕ → Item
  item s = item_numbered r g name tree places kind-bits s

  abbrev low : ℕ → ℕ
  low = lowest_in set rank order

  -- the place of an item that holds its smallest id, whose module has its lowest rank
  record Least (s : ℕ) : Type 0 where
    place : ℕ
    of_set : Memᴰ place places
    id : smallest_id tree (item s).places ≡ (member_at tree place).id
    lowest : low s ≡ get_or rank (module_at b place) 0

  of_item : (s p : ℕ) → Memᴰ p (item s).places → Memᴰ p places
  unfolding places_ended
  of_item s p m = (keep_mem _ places p m).0

  to_modules : (s p : ℕ) → Memᴰ p (item s).places → Memᴰ (module_at b p) (modules_in set order s)
  to_modules s p m =
      subst (λ l. Memᴰ (module_at b p) l) (item_modules b places inside few r exact rank kind-bits order done g name s) (mathlib.Core.List.Memᴰ.map (module_at b) m)

  of_modules_lem : (s m : ℕ) → Memᴰ m (modules_in set order s) → (p : ℕ) × Memᴰ p (item s).places × (module_at b p ≡ m)
  of_modules_lem s m i =
      mathlib.Core.List.Memᴰ.of_map (module_at b) (item s).places
      (subst (λ l. Memᴰ m l) (sym (item_modules b places inside few r exact rank kind-bits order done g name s)) i)

  least : (s : ℕ) → Memᴰ s numbers → Least s
  least s m =
      let few' = few_modules b places inside few r exact rank kind-bits order done in
      let x = still_entry b.shared.bits b.shared.sizes set rank few' r.threshold kind-bits order done s m in
      let one : ℕ = get_or set (item_of x.0) 0 in
      let some : Memᴰ one (modules_in set order s) =
      subst (λ (k : ℕ). Memᴰ one (modules_in set order k)) x.2
      (has_module b.shared.bits b.shared.sizes set rank few' r.threshold kind-bits order done own x.0 x.1) in
      let first = of_modules_lem s one some in
      let h : Held tree (item s).places = smallest_held tree (item s).places (mem_length first.1) in
      let small = own.small (module_at b h.place) (mathlib.Core.List.Memᴰ.map (module_at b) (of_item s h.place h.there)) in
      let l = lowest_held rank (modules_in set order s) (module_at b h.place) (to_modules s h.place h.there) small in
      let q = of_modules_lem s l.0 l.1 in
      let up = lowest_most rank (modules_in set order s) (module_at b h.place) (to_modules s h.place h.there) in
      let not_lower = by_id q.0 h.place (of_item s q.0 q.1) (of_item s h.place h.there) ∙ h.lowest q.0 q.1 in
      let down = ltb-false (get_or rank (module_at b q.0) 0) (get_or rank (module_at b h.place) 0) not_lower in
      record {
        place = h.place;
        of_set = of_item s h.place h.there;
        id = h.is;
        lowest = omega (arith, up, down, l.2, ap (λ n. get_or rank n 0) q.2);
      }

  agree : (s t : ℕ) → Memᴰ s numbers → Memᴰ t numbers → on (subgroup_first tree) item s t ≡ lower low s t
  unfolding subgroup_first
  agree s t m n =
      let x = least s m in
      let y = least t n in
      ap₂ before x.id y.id ∙ sym (by_id x.place y.place x.of_set y.of_set) ∙ sym (ap₂ ltb x.lowest y.lowest)

  pub items_in_turn : in_turn tree (divided_items r g name tree places) ≡ map (λ k. item (number_of set rank order k)) (turns_in set rank order order)
  unfolding in_turn
  items_in_turn =
      let few' = few_modules b places inside few r exact rank kind-bits order done in
      ap (sort_by (subgroup_first tree)) (divided_items_lem b places inside few r exact rank kind-bits order done g name)
      ∙ sort_map (subgroup_first tree) item numbers
      ∙ ap (map item)
      (sort_same (on (subgroup_first tree) item) (lower low) numbers agree
      ∙ sym (turns_are b.shared.bits b.shared.sizes set rank few' r.threshold kind-bits order done own))
      ∙ map-map item (number_of set rank order) (turns_in set rank order order)
