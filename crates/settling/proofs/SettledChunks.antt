-- What holds of the chunks after any items, for a run that writes chunk records one after another: no chunk is empty, no two share a place,
-- and each is a part of an item.
use Prim.Native.Nat.{ℕ, suc, ◌≤◌, ◌<◌}
use mathlib.Core.List.Memᴰ
use mathlib.Core.List.{List, [], ◌∷◌, ◌++◌, foldl, Memᴰ}
use mathlib.Core.Logic.{⊎_elim}
use mathlib.Core.Path.{◌≡◌, refl, sym, ap, subst}
use lib.ListN.{length}
use Rattle.lists.proofs.Sort.{Pairs, none, pairs_map}
use Rattle.grouping.specs.Tree.{Tree}
use Rattle.grouping.specs.Item.{Item, with_places}
use Rattle.grouping.specs.ChunkList.{Chunk, chunk_from}
use Rattle.grouping_laws.proofs.Pieces.{Ascending}
use Rattle.grouping_laws.proofs.SetPlaces.{Placed}
use Rattle.grouping_laws.proofs.EnoughTurns.{AllAscend}
use Rattle.grouping_laws.proofs.ChunkPlaces.{Apart}
use Rattle.settling.specs.Ends.{ends_of}
use Rattle.settling.specs.Settled.{left_of, chunks_from, settled}
use Rattle.lists.proofs.Blocks.{pairs_append}
use Rattle.settling.proofs.Taken.{mem_taken, left_mem}
use Rattle.settling.proofs.EndsHold.{Ended, NoneShared, ends_hold}
use Rattle.settling.proofs.TurnsOfItem.{left_ascends}

-- chunks that items settled to
pub record SettledChunks (items : List Item) (chunks : List Chunk) : Type 0 where
  pub ascend : (c : Chunk) → Memᴰ c chunks → Ascending c.places
  pub some : (c : Chunk) → Memᴰ c chunks → 1 ≤ length c.places
  pub within : (c : Chunk) → Memᴰ c chunks → (i : Item) × Memᴰ i items × ((p : ℕ) → Memᴰ p c.places → Memᴰ p i.places)
  pub apart : Pairs Apart chunks

-- ---- one item more

module _ (tree : Tree) (items : List Item) (chunks : List Chunk) (i : Item) (of : Memᴰ i items) (ends : List (List ℕ))
    (ended : Ended (left_of chunks i.places) ends) (before : SettledChunks items chunks) where
  abbrev new : List Chunk
  new = chunks_from tree i ends

  new_of : (c : Chunk) → Memᴰ c new → (e : List ℕ) × Memᴰ e ends × (e ≡ c.places)
  unfolding chunks_from chunk_from
  new_of c m =
      let o = Memᴰ.of_map (λ places. chunk_from tree (with_places places i)) ends m in
      (o.0, o.1, ap (λ (d : Chunk). d.places) o.2)

  new_left : (c : Chunk) → Memᴰ c new → (p : ℕ) → Memᴰ p c.places → Memᴰ p (left_of chunks i.places)
  new_left c m p k =
      let o = new_of c m in
      ended.within o.0 o.1 p (subst (λ (l : List ℕ). Memᴰ p l) (sym o.2) k)

  new_apart : Pairs Apart new
  unfolding chunks_from chunk_from
  new_apart = pairs_map NoneShared Apart (λ places. chunk_from tree (with_places places i)) (λ d e m n h. h) ended.apart

  more_settled : SettledChunks items (chunks ++ new)
  more_settled =
      record {
        ascend = λ c m.
            ⊎_elim (before.ascend c) (λ n. let o = new_of c n in subst Ascending o.2 (ended.ascend o.0 o.1))
            (Memᴰ.append_cases chunks m);
        some = λ c m.
            ⊎_elim (before.some c) (λ n. let o = new_of c n in subst (λ (l : List ℕ). 1 ≤ length l) o.2 (ended.some o.0 o.1))
            (Memᴰ.append_cases chunks m);
        within = λ c m.
            ⊎_elim (before.within c) (λ n. (i, of, λ p k. (left_mem chunks i.places p (new_left c n p k)).0)) (Memᴰ.append_cases chunks m);
        apart =
            pairs_append before.apart new_apart
            (λ c d m n p k l. (left_mem chunks i.places p (new_left d n p l)).1 (mem_taken c p m k));
      }

-- ---- the chunks after items

module _ (tree : Tree) where
  settled_after : (items some : List Item) (chunks : List Chunk) → ((i : Item) → Memᴰ i some → Memᴰ i items) → AllAscend some
      → SettledChunks items chunks → SettledChunks items (foldl (settled tree) chunks some)
  unfolding settled ends_of
  settled_after items [] chunks of all h = h
  settled_after items (i ∷ some) chunks of all h =
      let places = left_of chunks i.places in
      let ends = ends_of i.settings tree places in
      let ended = ends_hold i.settings tree (suc (length places)) places (left_ascends chunks (all i (Memᴰ.head refl))) in
      settled_after items some (chunks ++ chunks_from tree i ends) (λ j m. of j (Memᴰ.tail m)) (λ j m. all j (Memᴰ.tail m))
      (more_settled tree items chunks i (of i (Memᴰ.head refl)) ends ended h)

  pub settled_filled : (items : List Item) → AllAscend items → SettledChunks items (foldl (settled tree) [] items)
  settled_filled items all =
      settled_after items items [] (λ i m. m) all
      (record {
        ascend = λ c m. absurd (Memᴰ.not-nil m);
        some = λ c m. absurd (Memᴰ.not-nil m);
        within = λ c m. absurd (Memᴰ.not-nil m);
        apart = none;
      })

-- ---- places below n

module _ {items : List Item} {chunks : List Chunk} (h : SettledChunks items chunks)
    (n : ℕ) (below : (i : Item) → Memᴰ i items → (p : ℕ) → Memᴰ p i.places → p < n) where
  pub settled_placed : (c : Chunk) → Memᴰ c chunks → Placed n c.places
  settled_placed c m =
      let o = h.within c m in
      record { ascend = h.ascend c m; below = λ p k. below o.0 o.1 p (o.2 p k) }
