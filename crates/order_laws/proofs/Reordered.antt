-- An edit that changes only execution orders keeps the order of the items of one group and name: an item's smallest id is that of a module,
-- so that items with the same modules have the same smallest id, and by that they are ordered.
use Prim.Native.Nat.{ℕ, ◌≤◌, ◌<◌}
use mathlib.Core.Bool.{Bool, true, false, true≢false}
use mathlib.Core.List.Memᴰ
use mathlib.Core.List.{List, [], map, map-id, Memᴰ}
use mathlib.Core.Logic.{⊎_elim}
use mathlib.Core.Path.{◌≡◌, refl, sym, ap, ap₂, ◌∙◌, subst}
use native.Mathlib.Omega.{arith}
use borrow.Author.Tests.{eqb-true}
use lib.Dec.{eqb}
use lib.ListN.{length, get_or, length-map}
use Rattle.lists.proofs.Below.{both}
use Rattle.lists.proofs.Map.{get_or_map_below}
use Rattle.lists.proofs.Members.{keep_mem}
use Rattle.lists.proofs.Pairs.{pairs_keep}
use Rattle.lists.proofs.Position.{get_or_mem}
use Rattle.lists.proofs.Sort.{Pairs, none, more, pairs_weaker, pairs_map, rising_same}
use Rattle.ids.specs.Order.{before}
use Rattle.ids.proofs.ByteOrder.{before_irrefl, before_asym, equal_of_neither}
use Rattle.grouping.specs.Given.{Given}
use Rattle.grouping.specs.Settings.{all_settings}
use Rattle.grouping.specs.Tree.{Tree, tree_of, member_at}
use Rattle.grouping.specs.Item.{Item}
use Rattle.grouping.specs.WorkList.{lower_or, smallest_id, subgroup_first, comes_first, work_list}
use Rattle.grouping_laws.proofs.SetPlaces.{Placed}
use Rattle.grouping_laws.proofs.SmallestIds.{Held, smallest_held}
use Rattle.grouping_laws.proofs.WorkPlaces.{work_places}
use Rattle.settling.specs.Modules.{Passed, module_at, modules_at}
use Rattle.settling.proofs.ItemOrder.{lower_or_tie}
use Rattle.order_laws.specs.Reordering.{with_orders, has_name, items_named, SameModules, Matched, InStep}
use Rattle.order_laws.proofs.IdsApart.{id_of, id_at_lem, ids_apart}
use Rattle.order_laws.proofs.Strict.{Untied, work_untied, work_strict}

-- ---- lists that rise

pairs_both : {A : Type 0} {R S : A → A → Type 0} {l : List A} → Pairs R l → Pairs S l → Pairs (λ x y. R x y × S x y) l
pairs_both none none = none
pairs_both (more f p) (more g q) = more (λ y m. (f y m, g y m)) (pairs_both p q)

-- where no two have the same key, elements of one key are one
one_key : {A K : Type 0} (key : A → K) {l : List A} → Pairs (λ x y. key x ≡ key y → ⊥) l
    → (x y : A) → Memᴰ x l → Memᴰ y l → key x ≡ key y → x ≡ y
one_key key none x y i j e = absurd (Memᴰ.not-nil i)
one_key key (more {x = z} f r) x y i j e =
    ⊎_elim
    (λ p. ⊎_elim (λ q. p ∙ sym q) (λ t. absurd (f y t (ap key (sym p) ∙ e))) (Memᴰ.cases_cons j))
    (λ s. ⊎_elim (λ q. absurd (f x s (ap key (sym q) ∙ sym e))) (λ t. one_key key r x y s t e) (Memᴰ.cases_cons j))
    (Memᴰ.cases_cons i)

tied : (a b : ℕ) (next : Bool) → a ≡ b → lower_or a b next ≡ next
tied a b next e = ap (λ (x : ℕ). lower_or x b next) e ∙ lower_or_tie b next

-- items of one group and name are ordered by their smallest ids
by_ids : (tree : Tree) (x y : Item) → x.settings ≡ y.settings → x.group ≡ y.group → x.name ≡ y.name
    → comes_first tree x y ≡ before (smallest_id tree x.places) (smallest_id tree y.places)
unfolding comes_first subgroup_first
by_ids tree x y s g n =
    tied y.settings.priority x.settings.priority _ (ap (λ r. r.priority) (sym s))
    ∙ tied x.group y.group _ g
    ∙ tied x.name y.name _ n

module _ (b : Given) where
  abbrev smallest : Item → List ℕ
  smallest i = smallest_id (tree_of b) i.places

  abbrev Below : Item → Item → Type 0
  Below x y = before (smallest x) (smallest y) ≡ true

  module _ (g name : ℕ) where
    named_says : (i : Item) → Memᴰ i (items_named b g name)
        → Memᴰ i (work_list b.shared.k (all_settings b) (tree_of b)) × (i.group ≡ g) × (i.name ≡ name)
    unfolding items_named
    named_says i m =
        let s = keep_mem (has_name g name) (work_list b.shared.k (all_settings b) (tree_of b)) i m in
        let t = both (eqb i.group g) (eqb i.name name) s.1 in
        (s.0, eqb-true i.group g t.0, eqb-true i.name name t.1)

    named_places : (i : Item) → Memᴰ i (items_named b g name) → Placed (length (tree_of b)) i.places × (1 ≤ length i.places)
    named_places i m = work_places b.shared.k (all_settings b) (tree_of b) i (named_says i m).0

    -- the items of one group and name rise by their smallest ids
    named_rise : Passed b → Pairs Below (items_named b g name)
    unfolding items_named
    named_rise passed =
        let tree : Tree = tree_of b in
        let all = pairs_both (work_strict b passed) (work_untied tree (ids_apart b passed) b.shared.k (all_settings b)) in
        subst (Pairs Below) (map-id (items_named b g name))
        (pairs_map (λ x y. (comes_first tree x y ≡ true) × Untied tree x y) Below (λ (i : Item). i)
        (λ x y i j r.
        let p = named_says x i in
        let q = named_says y j in
        let group : x.group ≡ y.group = p.1 ∙ sym q.1 in
        sym (by_ids tree x y (r.1.settings group) group (p.2 ∙ sym q.2)) ∙ r.0)
        (pairs_keep (has_name g name) all))

-- ---- two builds in which each module has the same id

module _ (a b : Given) (same : (m : ℕ) → id_of a m ≡ id_of b m) where
  -- places with no other modules than those of y have no smaller id than the smallest of y
  not_above : (x y : List ℕ) → Placed (length (tree_of a)) x × (1 ≤ length x) → Placed (length (tree_of b)) y × (1 ≤ length y)
      → ((m : ℕ) → Memᴰ m (modules_at a x) → Memᴰ m (modules_at b y))
      → before (smallest_id (tree_of a) x) (smallest_id (tree_of b) y) ≡ false
  not_above x y h k within =
      let u : Held (tree_of a) x = smallest_held (tree_of a) x h.1 in
      let v : Held (tree_of b) y = smallest_held (tree_of b) y k.1 in
      let o = Memᴰ.of_map (module_at b) y (within (module_at a u.place) (Memᴰ.map (module_at a) u.there)) in
      let id : smallest_id (tree_of a) x ≡ (member_at (tree_of b) o.0).id =
      u.is
      ∙ id_at_lem a u.place (h.0.below u.place u.there)
      ∙ same (module_at a u.place)
      ∙ ap (id_of b) (sym o.2)
      ∙ sym (id_at_lem b o.0 (k.0.below o.0 o.1)) in
      ap₂ before id v.is ∙ v.lowest o.0 o.1

module _ (a b : Given) (same : (m : ℕ) → id_of a m ≡ id_of b m) (g name : ℕ) (pa : Passed a) (pb : Passed b) where
  same_smallest : (i j : Item) → Memᴰ i (items_named a g name) → Memᴰ j (items_named b g name) → SameModules a b i j → smallest a i ≡ smallest b j
  same_smallest i j m n s =
      let h = named_places a g name i m in
      let k = named_places b g name j n in
      equal_of_neither (smallest a i) (smallest b j) (not_above a b same i.places j.places h k s.there)
      (not_above b a (λ l. sym (same l)) j.places i.places k h s.back)

  module _ (there : Matched a b (items_named a g name) (items_named b g name)) (back : Matched b a (items_named b g name) (items_named a g name)) where
    keys_same : map (smallest a) (items_named a g name) ≡ map (smallest b) (items_named b g name)
    keys_same =
        rising_same before (λ l r p q. true≢false (sym q ∙ before_asym l r p)) _ _ (rise a pa) (rise b pb)
        (λ x m.
        let o = Memᴰ.of_map (smallest a) (items_named a g name) m in
        let j = there o.0 o.1 in
        Memᴰ.cast (sym o.2 ∙ same_smallest o.0 j.0 o.1 j.1 j.2) (Memᴰ.map (smallest b) j.1))
        (λ x m.
        let o = Memᴰ.of_map (smallest b) (items_named b g name) m in
        let i = back o.0 o.1 in
        let s : SameModules a b i.0 o.0 = record { there = i.2.back; back = i.2.there } in
        Memᴰ.cast (sym (same_smallest i.0 o.0 i.1 o.1 s ∙ o.2)) (Memᴰ.map (smallest a) i.1))
      where
        rise : (c : Given) → Passed c → Pairs (λ l r. before l r ≡ true) (map (smallest c) (items_named c g name))
        rise c passed = pairs_map (Below c) (λ l r. before l r ≡ true) (smallest c) (λ x y i j e. e) (named_rise c g name passed)

    in_step : InStep a b (items_named a g name) (items_named b g name)
    in_step = record { lengths = lengths; modules = modules }
      where
        lengths : length (items_named a g name) ≡ length (items_named b g name)
        lengths = sym (length-map (items_named a g name) (smallest a)) ∙ ap length keys_same ∙ length-map (items_named b g name) (smallest b)

        modules : (n : ℕ) (d : Item) → n < length (items_named a g name) → SameModules a b (get_or (items_named a g name) n d) (get_or (items_named b g name) n d)
        modules n d h =
            let i = get_or (items_named a g name) n d in
            let k = get_or (items_named b g name) n d in
            let mi = get_or_mem (items_named a g name) n d h in
            let mk = get_or_mem (items_named b g name) n d (omega (arith, lengths)) in
            let j = there i mi in
            let e : smallest b j.0 ≡ smallest b k = sym (same_smallest i j.0 mi j.1 j.2) ∙ at n d h in
            subst (λ (u : Item). SameModules a b i u) (one_key (smallest b) apart j.0 k j.1 mk e) j.2
          where
            at : (n : ℕ) (d : Item) → n < length (items_named a g name)
                → smallest a (get_or (items_named a g name) n d) ≡ smallest b (get_or (items_named b g name) n d)
            at n d h =
                sym (get_or_map_below (smallest a) (items_named a g name) n [] d h)
                ∙ ap (λ (l : List (List ℕ)). get_or l n []) keys_same
                ∙ get_or_map_below (smallest b) (items_named b g name) n [] d (omega (arith, lengths))

            apart : Pairs (λ x y. smallest b x ≡ smallest b y → ⊥) (items_named b g name)
            apart =
                pairs_weaker (λ x y l e. true≢false (sym l ∙ ap (λ (t : List ℕ). before t (smallest b y)) e ∙ before_irrefl (smallest b y)))
                (named_rise b g name pb)

-- The items of one group and name stand in the same order before and after the edit, if each has one with the same modules on the other
-- side. Chunks may still differ, where execution order decides a join.
pub reordered : (orders : List ℕ) (a : Given) (g name : ℕ) → Passed a → Passed (with_orders orders a)
    → Matched a (with_orders orders a) (items_named a g name) (items_named (with_orders orders a) g name)
    → Matched (with_orders orders a) a (items_named (with_orders orders a) g name) (items_named a g name)
    → InStep a (with_orders orders a) (items_named a g name) (items_named (with_orders orders a) g name)
reordered orders a g name = in_step a (with_orders orders a) (λ m. refl) g name
