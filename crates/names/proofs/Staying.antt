-- A module that has a chunk keeps one, whatever items have their turns.
use Prim.Native.Nat.{ℕ}
use mathlib.Core.Bool.{Bool, true, false, not, ◌||◌, false≢true}
use mathlib.Core.List.{List, [], ◌∷◌, ◌++◌, foldl, Memᴰ}
use mathlib.Core.Path.{◌≡◌, refl, sym, ap, ◌∙◌}
use borrow.Author.Tests.{eqb-true, eq-eqb}
use lib.Dec.{eqb}
use lib.ListN.{get_or}
use Rattle.lists.proofs.Position.{mem_get_or}
use Rattle.grouping.specs.Given.{Given}
use Rattle.grouping.specs.Tree.{Tree, tree_of, places_of}
use Rattle.grouping.specs.Item.{Item}
use Rattle.grouping.specs.ChunkList.{Chunk}
use Rattle.settling.specs.Modules.{Passed, module_at}
use Rattle.settling.specs.Settled.{taken, settled}
use Rattle.settling.proofs.Taken.{taken_append}
use Rattle.emitting.specs.Emitted.{Work}
use Rattle.linking.proofs.ChunkModules.{places_distinct}
use Rattle.linking.proofs.Untaken.{untaken_place}
use Rattle.running.specs.State.{State, Advance, Begun}
use Rattle.running.proofs.Tests.{passed_sound}

taken_more : (c d : List Chunk) (p : ℕ) → taken c p ≡ true → taken (c ++ d) p ≡ true
taken_more c d p e = taken_append c d p ∙ ap (λ (t : Bool). t || taken d p) e

taken_stays : (tree : Tree) (chunks : List Chunk) (items : List Item) (p : ℕ) → taken chunks p ≡ true → taken (foldl (settled tree) chunks items) p ≡ true
unfolding settled
taken_stays tree chunks [] p e = e
taken_stays tree chunks (i ∷ items) p e =
    taken_stays tree (settled tree chunks i) items p (taken_more chunks _ p e)

module _ {b : Given} (ok : Passed b) {start number at count : ℕ} {now after : Work} (begun : Begun b start number at now) (items : List Item)
    (advance : Advance b start (λ chunks. foldl (settled (tree_of b)) chunks items) number at count now after) where
  abbrev more : List Chunk
  more = foldl (settled (tree_of b)) begun.chunks items

  then : State b start more begun.before after
  then = (advance.step begun.before begun.chunks begun.state begun.numbered begun.placed).0

  pub numbers_stay : (m : ℕ) → Memᴰ m (places_of b) → (get_or now.chunk_of m 0 ≡ 0 → ⊥) → get_or after.chunk_of m 0 ≡ 0 → ⊥
  numbers_stay m i some none = go (taken begun.chunks p) refl
    where
      p : ℕ
      p = (mem_get_or 0 i).0

      here : module_at b p ≡ m
      here = (mem_get_or 0 i).2

      was : eqb (get_or now.chunk_of (module_at b p) 0) 0 ≡ not (taken begun.chunks p)
      was = untaken_place b start begun.chunks begun.before now (places_distinct b (passed_sound b ok)) begun.state.made p (mem_get_or 0 i).1

      is : eqb (get_or after.chunk_of (module_at b p) 0) 0 ≡ not (taken more p)
      is = untaken_place b start more begun.before after (places_distinct b (passed_sound b ok)) then.made p (mem_get_or 0 i).1

      go : (t : Bool) → taken begun.chunks p ≡ t → ⊥
      go true e =
          false≢true
          (sym (is ∙ ap not (taken_stays (tree_of b) begun.chunks items p e))
          ∙ eq-eqb (get_or after.chunk_of (module_at b p) 0) 0 (ap (λ (k : ℕ). get_or after.chunk_of k 0) here ∙ none))
      go false e =
          some (ap (λ (k : ℕ). get_or now.chunk_of k 0) (sym here) ∙ eqb-true (get_or now.chunk_of (module_at b p) 0) 0 (was ∙ ap not e))
