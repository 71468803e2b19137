-- The items of one group in the order of the work list: names ascend, and those of a name stand by the last tie.
use Prim.Native.Nat.{ℕ, ◌<◌}
use mathlib.Core.Bool.{Bool, true, false}
use mathlib.Core.List.Memᴰ
use mathlib.Core.List.{List, [], ◌∷◌, ◌++◌, flat_map, Memᴰ}
use mathlib.Core.Path.{◌≡◌, refl, sym, ap, ◌∙◌, subst}
use native.Mathlib.Omega.{arith}
use borrow.Author.Tests.{lt-ltb, le-ltb}
use lib.Dec.{ltb}
use Rattle.lists.specs.Sort.{sort_by}
use Rattle.lists.proofs.Sort.{Pairs, pairs_weaker, pairs_kept}
use Rattle.options.specs.declared.Settings.{Settings}
use Rattle.grouping.specs.Tree.{Tree}
use Rattle.grouping.specs.Item.{Item}
use Rattle.grouping.specs.Sets.{named, set_of}
use Rattle.grouping.specs.Subgroups.{merged_subgroups, kinds_at, divided_items}
use Rattle.grouping.specs.WorkList.{lower_or, subgroup_first, comes_first, items_of_set, items_of_names}
use Rattle.settling.specs.Traversal.{names_of, in_turn, items_of}
use Rattle.lists.proofs.FlatMap.{flat_map_mem, flat_map_same}
use Rattle.lists.proofs.Orders.{number_order}
use Rattle.lists.proofs.SortBlocks.{sort_blocks}
use Rattle.lists.proofs.SortMap.{sort_same}
use Rattle.lists.proofs.Sorted.{sorted_fixed}

-- ---- an order by one number, and by what comes next

pub lower_or_tie : (a : ℕ) (next : Bool) → lower_or a a next ≡ next
lower_or_tie a next = let e : ltb a a ≡ false = le-ltb a a (omega arith) in rw e

pub lower_or_above : (a b : ℕ) (next : Bool) → b < a → lower_or a b next ≡ false
lower_or_above a b next h =
    let e : ltb a b ≡ false = le-ltb a b (omega arith) in
    let l : ltb b a ≡ true = lt-ltb b a h in
    rw (e, l)

-- ---- what an item says of itself

pub record Of (r : Settings) (g : ℕ) (i : Item) : Type 0 where
  pub settings : i.settings ≡ r
  pub group : i.group ≡ g

record OfName (r : Settings) (g n : ℕ) (i : Item) : Type 0 where
  of : Of r g i
  name : i.name ≡ n

-- the items of one (group, name) as the set gives them
abbrev pub block_of : Settings → ℕ → Tree → ℕ → List Item
block_of r g tree name = items_of_set r.entries_aware r g name tree (set_of r g tree name)

module _ (r : Settings) (g : ℕ) (tree : Tree) where
  set_of_lem : (aware : Bool) (name : ℕ) (places : List ℕ) (i : Item) → Memᴰ i (items_of_set aware r g name tree places) → OfName r g name i
  unfolding divided_items
  set_of_lem true name places i m =
      let o = Memᴰ.of_map _ (merged_subgroups r tree places (kinds_at tree places)).there m in
      subst (OfName r g name) o.2 (record { of = record { settings = refl; group = refl }; name = refl })
  set_of_lem false name places i m =
      subst (OfName r g name) (sym (Memᴰ.eq_of_singleton m)) (record { of = record { settings = refl; group = refl }; name = refl })

  name_of : (name : ℕ) (i : Item) → Memᴰ i (block_of r g tree name) → OfName r g name i
  name_of name i m = set_of_lem r.entries_aware name (set_of r g tree name) i m

  -- the items of names, name by name
  names_blocks : (names : List ℕ) → items_of_names r g tree names ≡ flat_map (block_of r g tree) names
  unfolding items_of_names flat_map
  names_blocks [] = refl
  names_blocks (name ∷ names) = ap (λ (l : List Item). block_of r g tree name ++ l) (names_blocks names)

  pub names_of_lem : (names : List ℕ) (i : Item) → Memᴰ i (items_of_names r g tree names) → Of r g i
  names_of_lem names i m =
      let s = flat_map_mem (block_of r g tree) names i (subst (λ (l : List Item). Memᴰ i l) (names_blocks names) m) in
      (name_of s.0 i s.2).of

  -- ---- in order

  -- two items of the group: what decides are the name and the last tie
  same_group : (x y : Item) → Of r g x → Of r g y → comes_first tree y x ≡ lower_or y.name x.name (subgroup_first tree y x)
  unfolding comes_first
  same_group x y p q =
      let next : Bool = lower_or y.name x.name (subgroup_first tree y x) in
      rw (p.settings, q.settings, p.group, q.group) (lower_or_tie r.priority (lower_or g g next) ∙ lower_or_tie g next)

  -- items of two names are ordered as the names
  as_names : (a b : ℕ) → a < b → (x y : Item) → Memᴰ x (block_of r g tree a) → Memᴰ y (block_of r g tree b) → comes_first tree y x ≡ ltb b a
  as_names a b h x y i j =
      let p = name_of a x i in
      let q = name_of b y j in
      same_group x y p.of q.of
      ∙ lower_or_above y.name x.name (subgroup_first tree y x) (omega (arith, p.name, q.name))
      ∙ sym (le-ltb b a (omega arith))

  -- items of one name are ordered by the last tie
  same_name : (name : ℕ) (x y : Item) → Memᴰ x (block_of r g tree name) → Memᴰ y (block_of r g tree name)
      → comes_first tree x y ≡ subgroup_first tree x y
  same_name name x y i j =
      let p = name_of name x i in
      let q = name_of name y j in
      same_group y x q.of p.of
      ∙ ap (λ (n : ℕ). lower_or n y.name (subgroup_first tree x y)) (p.name ∙ sym q.name)
      ∙ lower_or_tie y.name (subgroup_first tree x y)

  name_sorted : (name : ℕ) → sort_by (comes_first tree) (block_of r g tree name) ≡ items_of r g tree name
  unfolding items_of in_turn
  name_sorted name = sort_same (comes_first tree) (subgroup_first tree) (block_of r g tree name) (same_name name)

  names_ascend : (k : ℕ) → Pairs (λ a b. a < b) (names_of k r g tree)
  unfolding names_of
  names_ascend k = pairs_kept (λ a b. a < b) (named r g tree) 0 k (λ a b h l p q. h)

  pub group_sorted : (k : ℕ) → sort_by (comes_first tree) (items_of_names r g tree (names_of k r g tree)) ≡ flat_map (items_of r g tree) (names_of k r g tree)
  group_sorted k =
      let names = names_of k r g tree in
      let block : ℕ → List Item = block_of r g tree in
      let sorted : ℕ → List Item = λ name. sort_by (comes_first tree) (block name) in
      ap (sort_by (comes_first tree)) (names_blocks names)
      ∙ sort_blocks (comes_first tree) ltb block number_order (pairs_weaker as_names (names_ascend k))
      ∙ ap (flat_map sorted) (sorted_fixed ltb (pairs_weaker (λ a b h. le-ltb b a (omega arith)) (names_ascend k)))
      ∙ flat_map_same sorted (items_of r g tree) names (λ name m. name_sorted name)
