-- A place is taken exactly when its module has a chunk number. What is left of places, and the room for it.
use Prim.Native.Nat.{ℕ, suc, ◌+◌, ◌≤◌, ◌<◌}
use mathlib.Core.Bool.{Bool, true, false, not}
use mathlib.Core.List.Memᴰ
use mathlib.Core.List.{List, [], ◌∷◌, ◌++◌, map, Memᴰ}
use mathlib.Core.Logic.{⊎_elim}
use mathlib.Core.Path.{◌≡◌, refl, ap, ◌∙◌, subst}
use native.Mathlib.Omega.{arith}
use borrow.Author.Tests.{ne_eqb}
use lib.Dec.{eqb}
use lib.ListN.{length, get_or, length-append, length-map}
use Rattle.lists.specs.Elem.{elem}
use Rattle.lists.specs.Keep.{keep}
use Rattle.lists.proofs.Blocks.{pairs_append}
use Rattle.lists.proofs.Distinct.{Distinct, distinct_count}
use Rattle.lists.proofs.KeepTests.{keep_map, keep_same}
use Rattle.lists.proofs.Position.{get_or_mem}
use Rattle.lists.proofs.Sort.{Pairs, pairs_map, pairs_weaker}
use Rattle.grouping.specs.Given.{Given}
use Rattle.grouping.specs.Tree.{places_of}
use Rattle.grouping.specs.ChunkList.{Chunk}
use Rattle.grouping.specs.Written.{chunk_number}
use Rattle.grouping_laws.proofs.ChunkPlaces.{Apart}
use Rattle.grouping_laws.proofs.Places.{places_mem}
use Rattle.grouping_laws.proofs.SetPlaces.{Placed}
use Rattle.settling.specs.Modules.{module_at, modules_at}
use Rattle.settling.specs.Settled.{taken, left_of}
use Rattle.settling.proofs.Taken.{mem_taken, left_mem}
use Rattle.settling.proofs.TurnsOfItem.{left_ascends}
use Rattle.emitting.specs.Emitted.{Work}
use Rattle.linking.specs.Made.{Made}
use Rattle.linking.proofs.MadeRead.{made_place}

taken_number : (base p : ℕ) (chunks : List Chunk) → eqb (chunk_number base p (map (λ c. c.places) chunks)) 0 ≡ not (taken chunks p)
unfolding chunk_number taken
taken_number base p [] = refl
taken_number base p (c ∷ chunks) = go (elem p c.places) refl (taken_number (suc base) p chunks)
  where
    go : (t : Bool) → elem p c.places ≡ t → eqb (chunk_number (suc base) p (map (λ d. d.places) chunks)) 0 ≡ not (taken chunks p)
        → eqb (chunk_number base p (map (λ d. d.places) (c ∷ chunks))) 0 ≡ not (taken (c ∷ chunks) p)
    go true e later = rw e (ne_eqb (suc base) 0 (λ q. omega arith))
    go false e later = rw e later

module _ (b : Given) (at : ℕ) (chunks : List Chunk) (before now : Work) (distinct : Distinct (places_of b)) (made : Made b at chunks before now) where
  pub untaken_place : (p : ℕ) → p < length (places_of b) → eqb (get_or now.chunk_of (module_at b p) 0) 0 ≡ not (taken chunks p)
  untaken_place p h = ap (λ k. eqb k 0) (made_place distinct made p h) ∙ taken_number b.on_entry p chunks

  pub left_modules : (places : List ℕ) → ((p : ℕ) → Memᴰ p places → p < length (places_of b))
      → keep (λ m. eqb (get_or now.chunk_of m 0) 0) (modules_at b places) ≡ modules_at b (left_of chunks places)
  unfolding left_of
  left_modules places below =
      keep_map (λ m. eqb (get_or now.chunk_of m 0) 0) (module_at b) places
      ∙ ap (map (module_at b))
      (keep_same (λ p. eqb (get_or now.chunk_of (module_at b p) 0) 0) (λ p. not (taken chunks p)) places (λ p i. untaken_place p (below p i)))

-- the first places of the chunks and the places that are left are distinct
module _ (n : ℕ) (chunks : List Chunk) (filled : (c : Chunk) → Memᴰ c chunks → Placed n c.places × (1 ≤ length c.places))
    (apart : Pairs Apart chunks) (places : List ℕ) (placed : Placed n places) where
  abbrev first : Chunk → ℕ
  first c = get_or c.places 0 0

  first_mem : (c : Chunk) → Memᴰ c chunks → Memᴰ (first c) c.places
  first_mem c m = get_or_mem c.places 0 0 (filled c m).1

  all_distinct : Distinct (map first chunks ++ left_of chunks places)
  all_distinct =
      pairs_append
      (pairs_map Apart (λ x y. x ≡ y → ⊥) first (λ c d m k a e. a (first c) (first_mem c m) (Memᴰ.cast e (first_mem d k))) apart)
      (pairs_weaker (λ p q h e. omega arith) (left_ascends chunks placed.ascend))
      (λ x p i j e.
      let o = Memᴰ.of_map first chunks i in
      (left_mem chunks places p j).1 (mem_taken o.0 p o.1 (subst (λ y. Memᴰ y o.0.places) (o.2 ∙ e) (first_mem o.0 o.1))))

  all_below_lem : (x : ℕ) → Memᴰ x (map first chunks ++ left_of chunks places) → x < n
  all_below_lem x i =
      ⊎_elim
      (λ k. let o = Memᴰ.of_map first chunks k in
      subst (λ y. y < n) o.2 ((filled o.0 o.1).0.below (first o.0) (first_mem o.0 o.1)))
      (λ k. placed.below x (left_mem chunks places x k).0)
      (Memᴰ.append_cases (map first chunks) i)

  -- there is room for as many chunks more as places are left
  pub room_left : length chunks + length (left_of chunks places) ≤ n
  room_left =
      omega (
        arith,
        distinct_count n (map first chunks ++ left_of chunks places) all_distinct all_below_lem,
        length-append (map first chunks) (left_of chunks places),
        length-map chunks first,
      )

pub places_count : (b : Given) → Distinct (places_of b) → length (places_of b) ≤ b.shared.n
places_count b distinct = distinct_count b.shared.n (places_of b) distinct (λ m i. (places_mem b m i).0)
