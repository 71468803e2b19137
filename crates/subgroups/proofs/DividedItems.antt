-- The items of an entries-aware set are the subgroups that are still there: the number of each, its bits and its modules.
use Rattle.std.proofs.Common.{◌≡◌, ℕ, ◌*◌, ◌^◌, ◌<◌, ◌≤◌, Bool, eqb, List, map, length, get_or, take, sym, ap, ◌∙◌, arith}
use mathlib.Core.List.{map-map, Memᴰ}
use mathlib.Core.Option.{some}
use lib.ListN.{length-map}
use Rattle.lists.specs.Sum.{sum}
use Rattle.lists.proofs.KeepTests.{keep_same, keep_map}
use Rattle.lists.proofs.Members.{map_same}
use Rattle.bitset.specs.Entries.{row_of}
use Rattle.bitset.specs.declared.entries.BitSet.{BitSet}
use Rattle.joins.specs.Subgroup.{Subgroup}
use Rattle.merge.specs.Merge.{Merging}
use Rattle.merge.specs.Tables.{subgroup_at, final_sizes}
use Rattle.options.specs.declared.Settings.{Settings}
use Rattle.grouping.specs.Given.{Given}
use Rattle.grouping.specs.Tree.{Tree, places_of, tree_of, member_at}
use Rattle.grouping.specs.Item.{Item}
use Rattle.grouping.specs.Subgroups.{kind_number, merged_subgroups, places_ended, item_of_subgroup, kinds_at, divided_items}
use Rattle.settling.specs.Modules.{module_at, modules_at}
use Rattle.subgroups.specs.Kinds.{kinds_in, kind_of_module, sizes_of}
use Rattle.subgroups.specs.Merged.{merged_kinds, Processed}
use Rattle.subgroups.specs.Items.{modules_in, item_numbered}
use Rattle.subgroups.proofs.Merging.{row_take}
use Rattle.subgroups.proofs.ByPlace.{bits_at, kinds_are, merged_is}
use Rattle.subgroups.proofs.Numbered.{still, there_are, still_below}
use Rattle.subgroups.proofs.RunModules.{modules_are}

module _ (b : Given) (places : List ℕ) (inside : (p : ℕ) → Memᴰ p places → p < length (places_of b)) (few : length places ≤ 4096)
    (r : Settings) (exact : sum (sizes_of b.shared.sizes (modules_at b places)) ≤ 2 ^ 53)
    (rank kind-bits order : List ℕ) (done : Processed b.shared.bits b.shared.sizes (modules_at b places) rank r.threshold kind-bits order) where
  abbrev set : List ℕ
  set = modules_at b places

  abbrev bits : List ℕ
  bits = b.shared.bits

  abbrev tree : Tree
  tree = tree_of b

  abbrev result : Merging
  result = merged_subgroups r tree places (kinds_at tree places)

  pub few_modules : length set ≤ 4096
  few_modules = omega (arith, length-map places (module_at b))

  same : merged_kinds bits b.shared.sizes set r.threshold ≡ result
  same = merged_is b places inside r exact

  -- the numbers of the subgroups that are still there
  abbrev pub there : List ℕ
  there = still bits b.shared.sizes set rank few_modules r.threshold kind-bits order done

  -- how many kinds there are
  abbrev count : ℕ
  count = length (kinds_in bits set)

  -- the subgroup of a row
  abbrev at : ℕ → Subgroup
  at = subgroup_at (final_sizes count (merged_kinds bits b.shared.sizes set r.threshold)) (take (4 * count) kind-bits)

  subgroups_are : result.there ≡ map at there
  subgroups_are =
      sym (ap (λ (m : Merging). m.there) same) ∙ there_are bits b.shared.sizes set rank few_modules r.threshold kind-bits order done

  pub divided_items_lem : (g name : ℕ) → divided_items r g name tree places ≡ map (item_numbered r g name tree places kind-bits) there
  unfolding divided_items subgroup_at
  divided_items_lem g name =
      let made : Subgroup → Item = item_of_subgroup r g name tree places (kinds_at tree places) result.finals in
      ap (map made) subgroups_are
      ∙ map-map made at there
      ∙ map_same (λ s. made (at s)) (item_numbered r g name tree places kind-bits) there
      (λ s m.
      ap {B = Item} (λ (x : BitSet). record
      { group = g; name = name; subgroup = s; settings = r; bits = some x; places = places_ended tree places (kinds_at tree places) result.finals s })
      (row_take (4 * count) kind-bits s
      (omega (arith, still_below bits b.shared.sizes set rank few_modules r.threshold kind-bits order done s m))))

  -- the item's modules are those of the run
  pub item_modules : (g name s : ℕ) → modules_at b (item_numbered r g name tree places kind-bits s).places ≡ modules_in set order s
  unfolding places_ended
  item_modules g name s =
      let numbers = (merged_kinds bits b.shared.sizes set r.threshold).finals in
      let ends : ℕ → Bool = λ m. eqb (get_or numbers (kind_of_module bits (kinds_in bits set) m) 0) s in
      let by_place : ℕ → Bool = λ p. eqb (get_or result.finals (kind_number 0 (kinds_at tree places) (member_at tree p).bits) 0) s in
      let agree : (p : ℕ) → Memᴰ p places → by_place p ≡ ends (module_at b p) =
      λ p m.
      ap (λ (x : BitSet). eqb (get_or result.finals (kind_number 0 (kinds_at tree places) x) 0) s) (bits_at b places inside p m)
      ∙ ap (λ (k : List BitSet). eqb (get_or result.finals (kind_number 0 k (row_of bits (module_at b p))) 0) s) (sym (kinds_are b places inside))
      ∙ ap (λ (w : Merging). eqb (get_or w.finals (kind_of_module bits (kinds_in bits set) (module_at b p)) 0) s) (sym same) in
      ap (map (module_at b)) (keep_same by_place (λ p. ends (module_at b p)) places agree)
      ∙ sym (keep_map ends (module_at b) places)
      ∙ sym (modules_are bits b.shared.sizes set rank few_modules r.threshold kind-bits order done s)
