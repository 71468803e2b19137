-- The work list is the groups in the order of their turns, each with its items: names ascending, and those of a name by the last tie.
use Prim.Native.Nat.{ℕ, zero, suc, ◌<◌}
use mathlib.Core.Bool.{Bool, false}
use mathlib.Core.List.{List, ◌++◌, map, flat_map, Memᴰ}
use mathlib.Core.Path.{◌≡◌, refl, sym, ap, ◌∙◌}
use native.Mathlib.Omega.{arith}
use borrow.Author.Tests.{le-ltb}
use lib.Dec.{ltb}
use Rattle.lists.specs.Range.{range}
use Rattle.lists.specs.Sort.{sort_by}
use Rattle.options.specs.declared.Settings.{Settings}
use Rattle.grouping.specs.Tree.{Tree}
use Rattle.grouping.specs.Item.{Item}
use Rattle.grouping.specs.WorkList.{lower_or, subgroup_first, comes_first, items_of_names, items_from, work_list}
use Rattle.settling.specs.Traversal.{group_first, group_order, names_of, items_of}
use Rattle.lists.proofs.Blocks.{pairs_range}
use Rattle.settling.proofs.ItemOrder.{Of, lower_or_above, names_of_lem, group_sorted}
use Rattle.lists.proofs.FlatMap.{flat_map_same}
use Rattle.lists.proofs.Orders.{key_order, number_order, order_back, then_order}
use Rattle.lists.proofs.SortBlocks.{sort_blocks}
use Rattle.lists.proofs.Sorted.{WeakOrder}

-- the items of group g as its sets give them
abbrev block_of_group : ℕ → (ℕ → Settings) → Tree → ℕ → List Item
block_of_group k settings tree g = items_of_names (settings g) g tree (names_of k (settings g) g tree)

-- the items of group g in the order of their turns
abbrev pub items_of_group : ℕ → (ℕ → Settings) → Tree → ℕ → List Item
items_of_group k settings tree g = flat_map (items_of (settings g) g tree) (names_of k (settings g) g tree)

module _ (k : ℕ) (settings : ℕ → Settings) (tree : Tree) where
  -- the items of all groups, group by group
  from_blocks : (g count : ℕ) → items_from k g (map settings (range g count)) tree ≡ flat_map (block_of_group k settings tree) (range g count)
  unfolding items_from range flat_map names_of
  from_blocks g zero = refl
  from_blocks g (suc count) = ap (λ (l : List Item). block_of_group k settings tree g ++ l) (from_blocks (suc g) count)

  -- "higher priority first, then lower group"
  first_order : WeakOrder (group_first settings)
  unfolding group_first
  first_order = then_order (order_back (key_order (λ g. (settings g).priority))) number_order

  -- items of two groups are ordered as the groups
  as_groups : (g h : ℕ) → g < h → (x y : Item) → Memᴰ x (block_of_group k settings tree g) → Memᴰ y (block_of_group k settings tree h)
      → comes_first tree y x ≡ group_first settings h g
  unfolding comes_first group_first
  as_groups g h l x y i j =
      let p : Of (settings g) g x = names_of_lem (settings g) g tree (names_of k (settings g) g tree) x i in
      let q : Of (settings h) h y = names_of_lem (settings h) h tree (names_of k (settings h) h tree) y j in
      let next : Bool = lower_or y.name x.name (subgroup_first tree y x) in
      let tie : ltb h g ≡ false = le-ltb h g (omega arith) in
      rw (p.settings, q.settings, p.group, q.group)
      (ap (λ (b : Bool). lower_or (settings g).priority (settings h).priority b) (lower_or_above h g next l ∙ sym tie))

  pub work_traversal : (count : ℕ) → work_list k (map settings (range 0 count)) tree ≡ flat_map (items_of_group k settings tree) (group_order settings count)
  unfolding work_list group_order
  work_traversal count =
      let block : ℕ → List Item = block_of_group k settings tree in
      ap (sort_by (comes_first tree)) (from_blocks 0 count)
      ∙ sort_blocks (comes_first tree) (group_first settings) block first_order (pairs_range _ 0 count (λ g h l u. as_groups g h l))
      ∙ flat_map_same (λ g. sort_by (comes_first tree) (block g)) (items_of_group k settings tree) (sort_by (group_first settings) (range 0 count))
      (λ g m. group_sorted (settings g) g tree k)
