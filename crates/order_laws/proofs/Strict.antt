-- The order of the work list is strict: items of one group and name hold different places, so that their smallest ids differ, and of two
-- items always one comes first.
use Prim.Native.Nat.{ℕ, suc, ◌≤◌, ◌<◌}
use mathlib.Core.Bool.{Bool, true, false, cond, true≢false}
use mathlib.Core.List.Memᴰ
use mathlib.Core.List.{List, [], ◌∷◌, Memᴰ}
use mathlib.Core.Logic.{⊎_elim}
use mathlib.Core.Path.{◌≡◌, refl, sym, ap, ◌∙◌}
use native.Mathlib.Omega.{arith}
use borrow.Author.Tests.{ltb-false, eqb-true}
use lib.Dec.{ltb, eqb}
use lib.ListN.{length, get_or}
use Rattle.lists.specs.Keep.{keep}
use Rattle.lists.specs.Range.{range}
use Rattle.lists.proofs.Blocks.{pairs_append}
use Rattle.lists.proofs.Members.{keep_mem}
use Rattle.lists.proofs.Orders.{key_order, order_back, then_order}
use Rattle.lists.proofs.Rearranged.{sort_perm, perm_pairs}
use Rattle.lists.proofs.Sort.{Pairs, none, more, pairs_weaker, pairs_map, pairs_kept, sort_rising}
use Rattle.lists.proofs.Sorted.{WeakOrder}
use Rattle.bitset.specs.declared.entries.BitSet.{BitSet}
use Rattle.ids.specs.Order.{before}
use Rattle.ids.proofs.ByteOrder.{equal_of_neither}
use Rattle.joins.specs.Subgroup.{Subgroup}
use Rattle.merge.proofs.NumbersAscend.{Lower}
use Rattle.options.specs.declared.Settings.{Settings}
use Rattle.grouping.specs.Given.{Given}
use Rattle.grouping.specs.Settings.{all_settings}
use Rattle.grouping.specs.Tree.{Tree, tree_of, member_at}
use Rattle.grouping.specs.Item.{Item}
use Rattle.grouping.specs.Sets.{named, set_of}
use Rattle.grouping.specs.Subgroups.{merged_subgroups, kind_number, places_ended, item_of_subgroup, kinds_at, divided_items}
use Rattle.grouping.specs.WorkList.{lower_or, smallest_id, subgroup_first, comes_first, items_of_set, items_of_names, items_from, work_list}
use Rattle.grouping_laws.proofs.SetPlaces.{Placed, set_placed}
use Rattle.grouping_laws.proofs.SmallestIds.{Held, smallest_held, subgroup_order}
use Rattle.grouping_laws.proofs.SubgroupPlaces.{divided_placed}
use Rattle.settling.specs.Modules.{Passed}
use Rattle.settling.proofs.ItemOrder.{names_of_lem}
use Rattle.order_laws.proofs.IdsApart.{IdsApart, ids_apart}
use Rattle.order_laws.proofs.SubgroupsAscend.{there_ascends}

-- ---- of two items that do not tie, one comes first

-- two items of one group have its settings, and two of one name in it different smallest ids
pub record Untied (tree : Tree) (x y : Item) : Type 0 where
  pub settings : x.group ≡ y.group → x.settings ≡ y.settings
  pub ids : x.group ≡ y.group → x.name ≡ y.name → smallest_id tree x.places ≡ smallest_id tree y.places → ⊥

untied_back : (tree : Tree) (x y : Item) → Untied tree x y → Untied tree y x
untied_back tree x y u = record { settings = λ g. sym (u.settings (sym g)); ids = λ g n e. u.ids (sym g) (sym n) (sym e) }

-- where the second is not first the first is, if it is so where the two numbers are equal
decided : (a b : ℕ) (s t : Bool) → (a ≡ b → s ≡ false → t ≡ true) → lower_or b a s ≡ false → lower_or a b t ≡ true
decided a b s t next e = go (ltb a b) (ltb b a) refl refl e
  where
    go : (x y : Bool) → ltb a b ≡ x → ltb b a ≡ y → cond y true (cond x false s) ≡ false → cond x true (cond y false t) ≡ true
    go true y p q f = refl
    go false true p q f = absurd (true≢false f)
    go false false p q f = next (omega (arith, ltb-false a b p, ltb-false b a q)) f

other_first : (l r : List ℕ) → (l ≡ r → ⊥) → before r l ≡ false → before l r ≡ true
other_first l r ne e = go (before l r) refl
  where
    go : (t : Bool) → before l r ≡ t → t ≡ true
    go true p = refl
    go false p = absurd (ne (equal_of_neither l r p e))

module _ (tree : Tree) where
  pub work_order : WeakOrder (comes_first tree)
  unfolding comes_first
  work_order =
      then_order (order_back (key_order (λ (i : Item). i.settings.priority)))
      (then_order (key_order (λ (i : Item). i.group)) (then_order (key_order (λ (i : Item). i.name)) (subgroup_order tree)))

  first_of : (x y : Item) → Untied tree x y → comes_first tree y x ≡ false → comes_first tree x y ≡ true
  unfolding comes_first subgroup_first
  first_of x y u =
      decided y.settings.priority x.settings.priority _ _
      (λ _. decided x.group y.group _ _
      (λ g. decided x.name y.name _ _
      (λ n. other_first (smallest_id tree x.places) (smallest_id tree y.places) (u.ids g n))))

  -- ---- what an item says of itself

  set_name : (aware : Bool) (r : Settings) (g name : ℕ) (places : List ℕ) (i : Item) → Memᴰ i (items_of_set aware r g name tree places) → i.name ≡ name
  unfolding divided_items
  set_name true r g name places i m =
      let o = Memᴰ.of_map _ (merged_subgroups r tree places (kinds_at tree places)).there m in
      sym (ap (λ (u : Item). u.name) o.2)
  set_name false r g name places i m = ap (λ (u : Item). u.name) (Memᴰ.eq_of_singleton m)

  names_name : (r : Settings) (g : ℕ) (names : List ℕ) (i : Item) → Memᴰ i (items_of_names r g tree names) → Memᴰ i.name names
  unfolding items_of_names
  names_name r g [] i m = absurd (Memᴰ.not-nil m)
  names_name r g (name ∷ names) i m =
      ⊎_elim
      (λ t. Memᴰ.head (set_name r.entries_aware r g name (set_of r g tree name) i t))
      (λ t. Memᴰ.tail (names_name r g names i t))
      (Memᴰ.append_cases (items_of_set r.entries_aware r g name tree (set_of r g tree name)) m)

  from_group : (k g : ℕ) (settings : List Settings) (i : Item) → Memᴰ i (items_from k g settings tree) → g ≤ i.group
  unfolding items_from
  from_group k g [] i m = absurd (Memᴰ.not-nil m)
  from_group k g (r ∷ settings) i m =
      let names = keep (named r g tree) (range 0 k) in
      ⊎_elim
      (λ t. omega (arith, (names_of_lem r g tree names i t).group))
      (λ t. omega (arith, from_group k (suc g) settings i t))
      (Memᴰ.append_cases (items_of_names r g tree names) m)

  -- ---- no two items tie

  module _ (apart : IdsApart tree) where
    -- places that have ended in two numbers hold different ids, since each has ended in one
    pub subgroups_differ : (places : List ℕ) (kinds : List BitSet) (finals : List ℕ) (m n : ℕ) → Placed (length tree) places
        → 1 ≤ length (places_ended tree places kinds finals m) → 1 ≤ length (places_ended tree places kinds finals n)
        → smallest_id tree (places_ended tree places kinds finals m) ≡ smallest_id tree (places_ended tree places kinds finals n) → m ≡ n
    unfolding places_ended
    subgroups_differ places kinds finals m n h u v e =
        let final : ℕ → ℕ = λ p. get_or finals (kind_number 0 kinds (member_at tree p).bits) 0 in
        let x : Held tree (places_ended tree places kinds finals m) = smallest_held tree (places_ended tree places kinds finals m) u in
        let y : Held tree (places_ended tree places kinds finals n) = smallest_held tree (places_ended tree places kinds finals n) v in
        let i = keep_mem (λ p. eqb (final p) m) places x.place x.there in
        let j = keep_mem (λ p. eqb (final p) n) places y.place y.there in
        let one : x.place ≡ y.place = apart x.place y.place (h.below x.place i.0) (h.below y.place j.0) (sym x.is ∙ e ∙ y.is) in
        sym (eqb-true (final x.place) m i.1) ∙ ap final one ∙ eqb-true (final y.place) n j.1

    divided_untied : (r : Settings) (g name : ℕ) (places : List ℕ) → Placed (length tree) places → Pairs (Untied tree) (divided_items r g name tree places)
    unfolding divided_items
    divided_untied r g name places h =
        let kinds = kinds_at tree places in
        let result = merged_subgroups r tree places kinds in
        let item : Subgroup → Item = item_of_subgroup r g name tree places kinds result.finals in
        let some : (s : Subgroup) → Memᴰ s result.there → 1 ≤ length (item s).places =
        λ s m. (divided_placed tree places (length tree) r g name h (item s) (Memᴰ.map item m)).1 in
        pairs_map Lower (Untied tree) item
        (λ s t i j l.
        record {
          settings = λ _. refl;
          ids = λ _ _ e. omega (arith, subgroups_differ places kinds result.finals s.number t.number h (some s i) (some t j) e);
        })
        (there_ascends r tree places kinds)

    set_untied : (aware : Bool) (r : Settings) (g name : ℕ) (places : List ℕ) → Placed (length tree) places
        → Pairs (Untied tree) (items_of_set aware r g name tree places)
    set_untied true r g name places h = divided_untied r g name places h
    set_untied false r g name places h = more (λ y m. absurd (Memᴰ.not-nil m)) none

    names_untied : (r : Settings) (g : ℕ) {names : List ℕ} → Pairs (λ a b. a < b) names → Pairs (Untied tree) (items_of_names r g tree names)
    unfolding items_of_names
    names_untied r g none = none
    names_untied r g (more {x = name} {l = names} f rest) =
        let here = items_of_set r.entries_aware r g name tree (set_of r g tree name) in
        let later = items_of_names r g tree names in
        pairs_append (set_untied r.entries_aware r g name (set_of r g tree name) (set_placed r g tree name)) (names_untied r g rest)
        (λ x y i j.
        record {
          settings =
              λ _.
              (names_of_lem r g tree (name ∷ names) x (Memᴰ.append_left later i)).settings
              ∙ sym (names_of_lem r g tree (name ∷ names) y (Memᴰ.append_right here j)).settings;
          ids =
              λ _ n _.
              omega (
                arith,
                n,
                set_name r.entries_aware r g name (set_of r g tree name) x i,
                f y.name (names_name r g names y j),
              );
        })

    items_untied : (k g : ℕ) (settings : List Settings) → Pairs (Untied tree) (items_from k g settings tree)
    unfolding items_from
    items_untied k g [] = none
    items_untied k g (r ∷ settings) =
        let names = keep (named r g tree) (range 0 k) in
        let other : (x y : Item) → Memᴰ x (items_of_names r g tree names) → Memᴰ y (items_from k (suc g) settings tree) → x.group ≡ y.group → ⊥ =
        λ x y i j e. omega (arith, e, (names_of_lem r g tree names x i).group, from_group k (suc g) settings y j) in
        pairs_append (names_untied r g (pairs_kept (λ a b. a < b) (named r g tree) 0 k (λ a b h l p q. h))) (items_untied k (suc g) settings)
        (λ x y i j. record { settings = λ e. absurd (other x y i j e); ids = λ e _ _. other x y i j e })

    -- ---- the work list

    pub work_untied : (k : ℕ) (settings : List Settings) → Pairs (Untied tree) (work_list k settings tree)
    unfolding work_list
    work_untied k settings = perm_pairs (untied_back tree) (sort_perm (comes_first tree) (items_from k 0 settings tree)) (items_untied k 0 settings)

    pub work_rises : (k : ℕ) (settings : List Settings) → Pairs (λ x y. comes_first tree x y ≡ true) (work_list k settings tree)
    unfolding work_list
    work_rises k settings = sort_rising (comes_first tree) work_order.transitive (pairs_weaker first_of (items_untied k 0 settings))

-- each item strictly comes first of every later one
pub work_strict : (b : Given) → Passed b → Pairs (λ x y. comes_first (tree_of b) x y ≡ true) (work_list b.shared.k (all_settings b) (tree_of b))
work_strict b passed = work_rises (tree_of b) (ids_apart b passed) b.shared.k (all_settings b)
