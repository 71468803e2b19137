-- The turns of an item followed by others make the chunks of the item's ends, and then those of the others without the places of these
-- chunks. So all pieces of an item are done before the next one, and the bound of the turns is met here for the last time.
use Prim.Native.Nat.{ℕ, zero, suc, ◌+◌, ◌-◌, ◌≤◌, ◌<◌}
use mathlib.Core.Bool.{not}
use mathlib.Core.List.Memᴰ
use mathlib.Core.List.{
  List,
  [],
  ◌∷◌,
  ◌++◌,
  map,
  map-append,
  append_assoc,
  Memᴰ,
}
use mathlib.Core.Logic.{⊎_elim}
use mathlib.Core.Path.{◌≡◌, refl, sym, ap, ◌∙◌, subst}
use native.Mathlib.Omega.{arith}
use lib.ListN.{length}
use Rattle.lists.proofs.Pairs.{pairs_keep}
use Rattle.grouping.specs.Tree.{Tree}
use Rattle.grouping.specs.Item.{Item, with_places}
use Rattle.grouping.specs.Fate.{Fate, emptied, dropped, parted, emitted, fate_of}
use Rattle.grouping.specs.ChunkList.{rest, turns, Chunk, chunk_from, emitted_by, chunks_of_turns}
use Rattle.grouping_laws.proofs.Pieces.{Ascending, OfFate, fate_holds}
use Rattle.grouping_laws.proofs.EnoughTurns.{AllAscend, most_turns, rest_most, rest_ascend, turns_end}
use Rattle.settling.specs.Ends.{ends_by, ends_from, ends_of}
use Rattle.settling.specs.Settled.{taken, left_of, chunks_from}
use Rattle.settling.proofs.EndsHold.{Ended, ends_hold}
use Rattle.settling.proofs.Taken.{taken_mem, left_all, item_left, items_left_none, items_left_left, items_without}

-- ---- items whose places ascend

pub left_ascends : (chunks : List Chunk) {places : List ℕ} → Ascending places → Ascending (left_of chunks places)
unfolding left_of
left_ascends chunks a = pairs_keep (λ p. not (taken chunks p)) a

pub all_left_ascend : (chunks : List Chunk) (items : List Item) → AllAscend items → AllAscend (map (item_left chunks) items)
all_left_ascend chunks items all j m =
    let o = Memᴰ.of_map (item_left chunks) items m in
    subst (λ (u : Item). Ascending u.places) o.2 (left_ascends chunks (all o.0 o.1))

all_more : (i : Item) (items : List Item) → Ascending i.places → AllAscend items → AllAscend (i ∷ items)
all_more i items a all j m = ⊎_elim (λ e. subst (λ (u : Item). Ascending u.places) (sym e) a) (all j) (Memᴰ.cases_cons m)

module _ (tree : Tree) where
  -- ---- the chunks that items make, with a bound that is high enough

  abbrev pub made : List Item → List Chunk
  made items = chunks_of_turns tree (turns (most_turns items) tree items)

  pub made_none : made [] ≡ []
  unfolding most_turns turns chunks_of_turns
  made_none = refl

  pub made_most : (most : ℕ) (items : List Item) → AllAscend items → most_turns items ≤ most → chunks_of_turns tree (turns most tree items) ≡ made items
  made_most most items all h =
      let e : most ≡ most_turns items + (most - most_turns items) = omega arith in
      ap (λ n. chunks_of_turns tree (turns n tree items)) e
      ∙ ap (chunks_of_turns tree) (turns_end tree (most_turns items) items all (omega arith) (most - most_turns items))

  -- one turn
  made_turn : (i : Item) (items : List Item) → AllAscend (i ∷ items)
      → made (i ∷ items)
      ≡ emitted_by tree (fate_of i.settings tree i.places) i (made (rest (fate_of i.settings tree i.places) i items))
  unfolding turns chunks_of_turns
  made_turn i items all =
      let fate = fate_of i.settings tree i.places in
      let here = fate_holds i.settings tree i.places (all i (Memᴰ.head refl)) in
      sym (made_most (suc (most_turns (i ∷ items))) (i ∷ items) all (omega arith))
      ∙ ap (emitted_by tree fate i)
      (made_most (most_turns (i ∷ items)) (rest fate i items) (rest_ascend fate i items here (λ j m. all j (Memᴰ.tail m)))
      (omega (arith, rest_most fate i items here)))

  -- ---- the turns of an item and its pieces

  -- what the right piece ends as takes nothing of the left piece
  left_stays : (i : Item) (left right : List ℕ) (ends : List (List ℕ)) → Ended right ends
      → ((p : ℕ) → Memᴰ p left → Memᴰ p right → ⊥) → left_of (chunks_from tree i ends) left ≡ left
  unfolding chunks_from chunk_from
  left_stays i left right ends h apart =
      left_all (chunks_from tree i ends) left (λ p m e.
      let c = taken_mem (chunks_from tree i ends) p e in
      let o = Memᴰ.of_map (λ places. chunk_from tree (with_places places i)) ends c.1 in
      apart p m (h.within o.0 o.1 p (subst (λ (x : Chunk). Memᴰ p x.places) (sym o.2) c.2)))

  -- the chunks of an item that ends so, and then those of the others
  abbrev after : Item → List (List ℕ) → List Item → List Chunk
  after i ends items = chunks_from tree i ends ++ made (map (item_left (chunks_from tree i ends)) items)

  after_both : (i : Item) (l m : List (List ℕ)) (items : List Item)
      → chunks_from tree i l ++ after i m (map (item_left (chunks_from tree i l)) items) ≡ after i (l ++ m) items
  unfolding chunks_from
  after_both i l m items =
      let c = chunks_from tree i l in
      let d = chunks_from tree i m in
      ap (λ (x : List Item). c ++ (d ++ made x)) (items_left_left c d items)
      ∙ sym (append_assoc c d (made (map (item_left (c ++ d)) items)))
      ∙ ap (λ (x : List Chunk). x ++ made (map (item_left x) items)) (sym (map-append (λ places. chunk_from tree (with_places places i)) l m))

  item_turns_lem : (n : ℕ) (i : Item) (items : List Item) → length i.places < n → AllAscend (i ∷ items)
      → made (i ∷ items) ≡ after i (ends_from n i.settings tree i.places) items
  unfolding ends_from chunks_from chunk_from
  item_turns_lem zero i items h all = absurd (omega arith)
  item_turns_lem (suc n) i items h all =
      made_turn i items all
      ∙ go (fate_of i.settings tree i.places) (fate_holds i.settings tree i.places (all i (Memᴰ.head refl))) (item_turns_lem n)
    where
      later : AllAscend items
      later j m = all j (Memᴰ.tail m)

      ends : List ℕ → List (List ℕ)
      ends = ends_from n i.settings tree

      go : (fate : Fate) → OfFate i.places fate
          → ((j : Item) (others : List Item) → length j.places < n → AllAscend (j ∷ others)
          → made (j ∷ others) ≡ after j (ends_from n j.settings tree j.places) others)
          → emitted_by tree fate i (made (rest fate i items)) ≡ after i (ends_by ends fate i.places) items
      go emptied o again = ap made (sym (items_left_none items))
      go dropped o again = ap made (sym (items_left_none items))
      go (parted left right) o again =
          let c = chunks_from tree i (ends right) in
          let others = map (item_left c) items in
          let stays = left_stays i left right (ends right) (ends_hold i.settings tree n right o.right_ascends) o.apart in
          let ascend = all_more (with_places left i) others o.left_ascends (all_left_ascend c items later) in
          again (with_places right i) (with_places left i ∷ items) (omega (arith, o.left_some, o.lengths)) (rest_ascend (parted left right) i items o later)
          ∙ ap (λ (l : List ℕ). c ++ made (with_places l i ∷ others)) stays
          ∙ ap (λ (l : List Chunk). c ++ l) (again (with_places left i) others (omega (arith, o.right_some, o.lengths)) ascend)
          ∙ after_both i (ends right) (ends left) items
      go emitted o again = ap (λ (l : List Item). chunk_from tree i ∷ made l) (items_without (chunk_from tree i) items)

  -- the chunks of an item by itself
  abbrev pub item_chunks : Item → List Chunk
  item_chunks i = chunks_from tree i (ends_of i.settings tree i.places)

  pub made_item : (i : Item) (items : List Item) → AllAscend (i ∷ items) → made (i ∷ items) ≡ item_chunks i ++ made (map (item_left (item_chunks i)) items)
  unfolding ends_of
  made_item i items all = item_turns_lem (suc (length i.places)) i items (omega arith) all
