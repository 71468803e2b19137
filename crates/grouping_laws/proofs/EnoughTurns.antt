-- The bound of the turns never cuts them short, so that it is no part of the meaning. An item of p places takes at most 2p − 1 turns, and
-- one if it is empty: a cut leaves pieces of l and r places, l + r being p, and 1 + (2l − 1) + (2r − 1) is 2p − 1.
use Prim.Native.Nat.{ℕ, zero, suc, ◌+◌, ◌-◌, ◌*◌, ◌≤◌, max}
use mathlib.Core.Bool.{not}
use mathlib.Core.List.Memᴰ
use mathlib.Core.List.{List, [], ◌∷◌, map, Memᴰ}
use mathlib.Core.Logic.{⊎_elim}
use mathlib.Core.Path.{◌≡◌, refl, sym, ap, ◌∙◌, subst}
use native.Mathlib.Nat.{suc-add}
use native.Mathlib.Omega.{arith}
use lib.ListN.{length}
use Rattle.lists.specs.Elem.{elem}
use Rattle.lists.specs.Sum.{sum}
use Rattle.lists.proofs.KeepLength.{keep_le}
use Rattle.lists.proofs.Pairs.{pairs_keep}
use Rattle.options.specs.declared.Settings.{Settings}
use Rattle.grouping.specs.Tree.{Tree}
use Rattle.grouping.specs.Item.{Item}
use Rattle.grouping.specs.WorkList.{work_list}
use Rattle.grouping.specs.Fate.{Fate, emptied, dropped, parted, emitted, fate_of}
use Rattle.grouping.specs.ChunkList.{Turn, rest, without, turns, enough, all_turns}
use Rattle.grouping_laws.proofs.Pieces.{Ascending, OfFate, fate_holds}
use Rattle.grouping_laws.proofs.WorkPlaces.{work_places}

-- the places of each item ascend
abbrev pub AllAscend : List Item → Type 0
AllAscend items = (i : Item) → Memᴰ i items → Ascending i.places

-- the turns that the items take at most
abbrev pub item_turns : Item → ℕ
item_turns i = max 1 (2 * length i.places - 1)

unfoldable pub most_turns : List Item → ℕ
unfolding sum
most_turns items = sum (map item_turns items)

pub most_enough : (items : List Item) → most_turns items ≤ enough items
unfolding most_turns enough sum
most_enough [] = omega arith
most_enough (i ∷ items) = let h = most_enough items in omega arith

-- ---- what a turn leaves

without_most : (gone : List ℕ) (items : List Item) → most_turns (map (without gone) items) ≤ most_turns items
unfolding most_turns sum
without_most gone [] = omega arith
without_most gone (i ∷ items) =
    let h = without_most gone items in
    let k = keep_le (λ p. not (elem p gone)) i.places in
    omega arith

pub rest_most : (fate : Fate) (i : Item) (items : List Item) → OfFate i.places fate → suc (most_turns (rest fate i items)) ≤ most_turns (i ∷ items)
unfolding most_turns sum
rest_most emptied i items h = omega arith
rest_most dropped i items h = omega arith
rest_most (parted left right) i items h = omega (arith, h.lengths, h.left_some, h.right_some)
rest_most emitted i items h = omega (arith, without_most i.places items)

pub rest_ascend : (fate : Fate) (i : Item) (items : List Item) → OfFate i.places fate → AllAscend items → AllAscend (rest fate i items)
rest_ascend emptied i items h all j m = all j m
rest_ascend dropped i items h all j m = all j m
rest_ascend (parted left right) i items h all j m =
    ⊎_elim
    (λ e. subst (λ (u : Item). Ascending u.places) (sym e) h.right_ascends)
    (λ t. ⊎_elim (λ e. subst (λ (u : Item). Ascending u.places) (sym e) h.left_ascends) (all j) (Memᴰ.cases_cons t))
    (Memᴰ.cases_cons m)
rest_ascend emitted i items h all j m =
    let o = Memᴰ.of_map (without i.places) items m in
    subst (λ (u : Item). Ascending u.places) o.2 (pairs_keep (λ p. not (elem p i.places)) (all o.0 o.1))

-- ---- the turns

module _ (tree : Tree) where
  no_items : (most : ℕ) → turns most tree [] ≡ []
  unfolding turns
  no_items zero = refl
  no_items (suc most) = refl

  pub turns_end : (most : ℕ) (items : List Item) → AllAscend items → most_turns items ≤ most
      → (extra : ℕ) → turns (most + extra) tree items ≡ turns most tree items
  unfolding turns
  turns_end zero [] all h extra = no_items (0 + extra)
  turns_end zero (i ∷ items) all h extra = absurd (omega (arith, rest_most emptied i items tt))
  turns_end (suc most) [] all h extra = no_items (suc most + extra)
  turns_end (suc most) (i ∷ items) all h extra =
      let here = fate_holds i.settings tree i.places (all i (Memᴰ.head refl)) in
      let fate = fate_of i.settings tree i.places in
      ap (λ (n : ℕ). turns n tree (i ∷ items)) (suc-add most extra)
      ∙ ap (λ (ts : List Turn). record { item = i; fate = fate } ∷ ts)
      (turns_end most (rest fate i items)
      (rest_ascend fate i items here (λ j m. all j (Memᴰ.tail m)))
      (omega (arith, rest_most fate i items here))
      extra)

  pub turns_bound : (most : ℕ) (items : List Item) → AllAscend items → length (turns most tree items) ≤ most_turns items
  unfolding turns
  turns_bound zero items all = omega arith
  turns_bound (suc most) [] all = omega arith
  turns_bound (suc most) (i ∷ items) all =
      let here = fate_holds i.settings tree i.places (all i (Memᴰ.head refl)) in
      let fate = fate_of i.settings tree i.places in
      omega (
        arith,
        rest_most fate i items here,
        turns_bound most (rest fate i items) (rest_ascend fate i items here (λ j m. all j (Memᴰ.tail m))),
      )

-- ---- the work list

-- where no item is empty, the turns are at most the sum of twice the places less one
some_most : (items : List Item) → ((i : Item) → Memᴰ i items → 1 ≤ length i.places)
    → most_turns items ≡ sum (map (λ i. 2 * length i.places - 1) items)
unfolding most_turns sum
some_most [] h = refl
some_most (i ∷ items) h =
    let here = h i (Memᴰ.head refl) in
    let after = some_most items (λ j m. h j (Memᴰ.tail m)) in
    omega arith

module _ (k : ℕ) (settings : List Settings) (tree : Tree) where
  pub work_ascends : AllAscend (work_list k settings tree)
  work_ascends i m = (work_places k settings tree i m).0.ascend

  pub enough_turns : (extra : ℕ)
      → turns (enough (work_list k settings tree) + extra) tree (work_list k settings tree) ≡ turns (enough (work_list k settings tree)) tree (work_list k settings tree)
  enough_turns = turns_end tree (enough (work_list k settings tree)) (work_list k settings tree) work_ascends (most_enough (work_list k settings tree))

  pub all_turns_bound : length (all_turns k settings tree) ≤ sum (map (λ i. 2 * length i.places - 1) (work_list k settings tree))
  unfolding all_turns
  all_turns_bound =
      omega (
        arith,
        turns_bound tree (enough (work_list k settings tree)) (work_list k settings tree) work_ascends,
        some_most (work_list k settings tree) (λ i m. (work_places k settings tree i m).1),
      )
