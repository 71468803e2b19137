-- What becomes of an item whose places ascend: a chunk is not empty, and a cut parts the places in two, each piece with at least one. The
-- order by ids is the places rearranged, so that each place is on one side of the cut and on one only.
use Prim.Native.Nat.{ℕ, ◌+◌, ◌≤◌, ◌<◌}
use mathlib.Core.Bool.{Bool, true, false, not, true≢false}
use mathlib.Core.List.Memᴰ
use mathlib.Core.List.{List, [], ◌∷◌, ◌++◌, map, Memᴰ}
use mathlib.Core.Logic.{◌⊎◌, inl, inr, ⊎_elim}
use mathlib.Core.Path.{◌≡◌, refl, sym, ◌∙◌, subst}
use native.Mathlib.Omega.{arith}
use lib.Ieee.{Float, lt}
use lib.ListN.{length, get_or, take, drop, take-append-drop, length-take, length-drop, length-map}
use Rattle.std.specs.Prelude.{Option, None, Some}
use Rattle.lists.specs.Elem.{elem}
use Rattle.lists.proofs.Distinct.{Distinct}
use Rattle.lists.proofs.Elem.{elem_mem, mem_elem}
use Rattle.lists.proofs.KeepLength.{mem_length, keep_parts}
use Rattle.lists.proofs.Members.{keep_mem, mem_keep}
use Rattle.lists.proofs.Pairs.{pairs_keep, pairs_across}
use Rattle.lists.proofs.Position.{get_or_mem}
use Rattle.lists.proofs.Rearranged.{sort_perm, perm_pairs}
use Rattle.lists.proofs.Sort.{Pairs, pairs_weaker, sort_mem, mem_sort}
use Rattle.ids.specs.Order.{before}
use Rattle.cut.specs.Cut.{Chosen, fewer_than_two, none_allowed, cut, cut_of}
use Rattle.cut.proofs.Answer.{there_is_a_cut}
use Rattle.options.specs.declared.Settings.{Settings}
use Rattle.grouping.specs.Tree.{Tree, member_at}
use Rattle.grouping.specs.Sizes.{sizes_at, item_size}
use Rattle.grouping.specs.Fate.{Fate, emptied, dropped, parted, emitted, in_id_order, among, parted_by, cut_fate, cut_if, limited_to, unless, fate_of}

-- each place is below every later one
abbrev pub Ascending : List ℕ → Type 0
Ascending places = Pairs (λ p q. p < q) places

-- places parted in two
pub record Pieces (places left right : List ℕ) : Type 0 where
  pub left_ascends : Ascending left
  pub right_ascends : Ascending right
  pub left_some : 1 ≤ length left
  pub right_some : 1 ≤ length right
  pub lengths : length left + length right ≡ length places
  pub left_of_lem : (p : ℕ) → Memᴰ p left → Memᴰ p places
  pub right_of : (p : ℕ) → Memᴰ p right → Memᴰ p places
  pub whole : (p : ℕ) → Memᴰ p places → Memᴰ p left ⊎ Memᴰ p right
  pub apart : (p : ℕ) → Memᴰ p left → Memᴰ p right → ⊥

-- ---- the two sides of a place in a rearrangement of the places

module _ (places ordered : List ℕ) (ascend : Ascending places) (distinct : Distinct ordered)
    (there : (p : ℕ) → Memᴰ p places → Memᴰ p ordered) (back : (p : ℕ) → Memᴰ p ordered → Memᴰ p places)
    (i : ℕ) (from_one : 1 ≤ i) (inside : i < length ordered) where
  joined : take i ordered ++ drop i ordered ≡ ordered
  joined = take-append-drop i ordered

  in_left : (p : ℕ) → Memᴰ p (take i ordered) → Memᴰ p ordered
  in_left p m = subst (λ (l : List ℕ). Memᴰ p l) joined (Memᴰ.append_left (drop i ordered) m)

  in_right : (p : ℕ) → Memᴰ p (drop i ordered) → Memᴰ p ordered
  in_right p m = subst (λ (l : List ℕ). Memᴰ p l) joined (Memᴰ.append_right (take i ordered) m)

  not_both : (p : ℕ) → Memᴰ p (take i ordered) → Memᴰ p (drop i ordered) → ⊥
  not_both p m n =
      pairs_across (take i ordered) (subst Distinct (sym joined) distinct) p p m n refl

  either_side : (p : ℕ) → Memᴰ p places → Memᴰ p (take i ordered) ⊎ Memᴰ p (drop i ordered)
  either_side p m = Memᴰ.append_cases (take i ordered) (subst (λ (l : List ℕ). Memᴰ p l) (sym joined) (there p m))

  one_side : (p : ℕ) → Memᴰ p places → elem p (drop i ordered) ≡ not (elem p (take i ordered))
  one_side p m = go (elem p (take i ordered)) (elem p (drop i ordered)) refl refl
    where
      go : (a b : Bool) → elem p (take i ordered) ≡ a → elem p (drop i ordered) ≡ b → b ≡ not a
      go true true e f = absurd (not_both p (elem_mem p (take i ordered) e) (elem_mem p (drop i ordered) f))
      go true false e f = refl
      go false true e f = refl
      go false false e f =
          ⊎_elim
          (λ k. absurd (true≢false (sym (mem_elem p k) ∙ e)))
          (λ k. absurd (true≢false (sym (mem_elem p k) ∙ f)))
          (either_side p m)

  side_some : (side : List ℕ) → ((p : ℕ) → Memᴰ p side → Memᴰ p ordered) → 1 ≤ length side → 1 ≤ length (among side places)
  side_some side sub h =
      let p : ℕ = get_or side 0 0 in
      let m = get_or_mem side 0 0 h in
      mem_length (mem_keep (λ q. elem q side) p (back p (sub p m)) (mem_elem p m))

  pieces : Pieces places (among (take i ordered) places) (among (drop i ordered) places)
  pieces =
      record {
        left_ascends = pairs_keep (λ p. elem p (take i ordered)) ascend;
        right_ascends = pairs_keep (λ p. elem p (drop i ordered)) ascend;
        left_some = side_some (take i ordered) in_left (simp length-take (omega arith));
        right_some = side_some (drop i ordered) in_right (simp length-drop (omega arith));
        lengths = keep_parts (λ p. elem p (take i ordered)) (λ p. elem p (drop i ordered)) places one_side;
        left_of_lem = λ p m. (keep_mem (λ q. elem q (take i ordered)) places p m).0;
        right_of = λ p m. (keep_mem (λ q. elem q (drop i ordered)) places p m).0;
        whole = λ p m.
            ⊎_elim
            (λ s. inl (mem_keep (λ q. elem q (take i ordered)) p m (mem_elem p s)))
            (λ s. inr (mem_keep (λ q. elem q (drop i ordered)) p m (mem_elem p s)))
            (either_side p m);
        apart = λ p m n.
            not_both p
            (elem_mem p (take i ordered) (keep_mem (λ q. elem q (take i ordered)) places p m).1)
            (elem_mem p (drop i ordered) (keep_mem (λ q. elem q (drop i ordered)) places p n).1);
      }

-- ---- the fate of an item

abbrev pub OfFate : List ℕ → Fate → Type 0
OfFate places emptied = Unit {0}
OfFate places dropped = Unit {0}
OfFate places (parted left right) = Pieces places left right
OfFate places emitted = 1 ≤ length places

module _ (tree : Tree) (places : List ℕ) (ascend : Ascending places) (some : 1 ≤ length places) where
  order_distinct : Distinct (in_id_order tree places)
  unfolding in_id_order
  order_distinct =
      perm_pairs (λ x y ne e. ne (sym e)) (sort_perm (λ p q. before (member_at tree p).id (member_at tree q).id) places)
      (pairs_weaker (λ x y l e. omega arith) ascend)

  order_there : (p : ℕ) → Memᴰ p places → Memᴰ p (in_id_order tree places)
  unfolding in_id_order
  order_there = mem_sort (λ p q. before (member_at tree p).id (member_at tree q).id) places

  order_back : (p : ℕ) → Memᴰ p (in_id_order tree places) → Memᴰ p places
  unfolding in_id_order
  order_back = sort_mem (λ p q. before (member_at tree p).id (member_at tree q).id) places

  cut_holds : (r : Settings) (maximum : Float) → OfFate places (cut_fate r tree maximum places)
  unfolding cut_fate
  cut_holds r maximum = go (cut_of ids sizes r.min_size maximum) refl
    where
      ordered : List ℕ
      ordered = in_id_order tree places

      ids : List (List ℕ)
      ids = map (λ p. (member_at tree p).id) ordered

      sizes : List ℕ
      sizes = sizes_at r tree ordered

      go : (c : Chosen) → cut_of ids sizes r.min_size maximum ≡ c → OfFate places (parted_by places ordered c)
      go fewer_than_two e = some
      go none_allowed e = some
      go (cut i left right) e =
          let a = there_is_a_cut ids sizes r.min_size maximum i left right e in
          pieces places ordered ascend order_distinct order_there order_back i a.from_one (rw (length-map ordered (λ p. (member_at tree p).id)) at a.inside)

  limit_holds : (maximum : Option Float) (r : Settings) → OfFate places (limited_to maximum r tree places)
  limit_holds None r = some
  limit_holds (Some maximum) r = go (lt maximum (item_size r tree places))
    where
      go : (b : Bool) → OfFate places (cut_if b r tree maximum places)
      go true = cut_holds r maximum
      go false = some

  unless_holds : (b : Bool) (r : Settings) → OfFate places (unless b r tree places)
  unless_holds true r = tt
  unless_holds false r = limit_holds r.max_size r

pub fate_holds : (r : Settings) (tree : Tree) (places : List ℕ) → Ascending places → OfFate places (fate_of r tree places)
unfolding fate_of
fate_holds r tree [] ascend = tt
fate_holds r tree (p ∷ places) ascend = unless_holds tree (p ∷ places) ascend (omega arith) (lt (item_size r tree (p ∷ places)) r.min_size) r
