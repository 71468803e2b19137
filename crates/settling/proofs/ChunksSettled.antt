-- The chunk list is what the items of the work list settle to, one after another: each is read on its turn without the places that are taken.
use Prim.Native.Nat.{ℕ}
use mathlib.Core.List.Memᴰ
use mathlib.Core.List.{List, [], ◌∷◌, ◌++◌, map, foldl, append-nil, append_assoc}
use mathlib.Core.Path.{◌≡◌, sym, ap, ◌∙◌}
use Rattle.options.specs.declared.Settings.{Settings}
use Rattle.grouping.specs.Tree.{Tree}
use Rattle.grouping.specs.Item.{Item}
use Rattle.grouping.specs.WorkList.{work_list}
use Rattle.grouping.specs.ChunkList.{enough, Chunk, all_turns, chunks_of}
use Rattle.grouping_laws.proofs.EnoughTurns.{AllAscend, most_enough, work_ascends}
use Rattle.settling.specs.Settled.{settled}
use Rattle.settling.proofs.Taken.{item_left, items_left_none, items_left_left}
use Rattle.settling.proofs.TurnsOfItem.{all_left_ascend, made, made_none, made_most, item_chunks, made_item}

module _ (tree : Tree) where
  -- after any chunks
  pub settled_made : (items : List Item) → AllAscend items → (chunks : List Chunk)
      → chunks ++ made tree (map (item_left chunks) items) ≡ foldl (settled tree) chunks items
  unfolding settled
  settled_made [] all chunks = ap (λ (l : List Chunk). chunks ++ l) (made_none tree) ∙ append-nil chunks
  settled_made (i ∷ items) all chunks =
      let later : AllAscend items = λ j m. all j (Memᴰ.tail m) in
      let new = item_chunks tree (item_left chunks i) in
      ap (λ (l : List Chunk). chunks ++ l)
      (made_item tree (item_left chunks i) (map (item_left chunks) items) (all_left_ascend chunks (i ∷ items) all)
      ∙ ap (λ (l : List Item). new ++ made tree l) (items_left_left chunks new items))
      ∙ sym (append_assoc chunks new (made tree (map (item_left (chunks ++ new)) items)))
      ∙ settled_made items later (chunks ++ new)

pub chunks_settled : (k : ℕ) (settings : List Settings) (tree : Tree) → chunks_of k settings tree ≡ foldl (settled tree) [] (work_list k settings tree)
unfolding chunks_of all_turns
chunks_settled k settings tree =
    let items = work_list k settings tree in
    let ascend = work_ascends k settings tree in
    made_most tree (enough items) items ascend (most_enough items)
    ∙ ap (made tree) (sym (items_left_none items))
    ∙ settled_made tree items ascend []
