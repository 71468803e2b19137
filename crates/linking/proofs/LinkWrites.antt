-- The pass writes each module's next and each chunk's first module, as the definition says.
use Prim.Native.Nat.{ℕ, ◌+◌, ◌≤◌, ◌<◌}
use mathlib.Core.List.{List, map, map-map}
use mathlib.Core.Path.{◌≡◌, sym, ap, ◌∙◌, subst}
use native.Mathlib.Nat.{zero-add}
use lib.ListN.{length, get_or, drop, replicate, length-map}
use Rattle.lists.proofs.Distinct.{Distinct}
use Rattle.lists.proofs.Position.{get_or_mem}
use Rattle.lists.proofs.Sort.{Pairs, pairs_map}
use Rattle.grouping.specs.Given.{Given}
use Rattle.grouping.specs.Tree.{places_of}
use Rattle.grouping.specs.ChunkList.{Chunk}
use Rattle.grouping.specs.Written.{modules_from, chunk_number, next_module}
use Rattle.lists.specs.Area.{placed}
use Rattle.grouping_laws.proofs.ChunkPlaces.{Apart}
use Rattle.grouping_laws.proofs.Places.{places_mem}
use Rattle.linking.specs.Links.{Links, linked}
use Rattle.linking.specs.Made.{modules_of_each}
use Rattle.linking.specs.Chains.{Cleared, Linked}
use Rattle.linking.proofs.Found.{ApartPlaces, each_from}
use Rattle.linking.proofs.PerModule.{module_read, module_rest, module_long, per_module_lem}
use Rattle.linking.proofs.LinkedOrder.{Chained, order_chained}
use Rattle.linking.proofs.ChunkModules.{place_number}

module _ (b : Given) (at : ℕ) (chunks : List Chunk) (chunk_of : List ℕ) (before entry : Links)
    (distinct : Distinct (places_of b)) (apart : Pairs Apart chunks)
    (numbers : (m : ℕ) → m < b.shared.n → get_or chunk_of m 0 ≡ chunk_number b.on_entry m (modules_of_each b chunks))
    (room : at ≤ length before.first_of) (cleared : Cleared b at chunks before entry) where
  abbrev n : ℕ
  n = b.shared.n

  abbrev places_of_each : List (List ℕ)
  places_of_each = map (λ c. c.places) chunks

  members : each_from 0 places_of_each (places_of b) ≡ modules_of_each b chunks
  members = map-map (λ c. modules_from 0 c (places_of b)) (λ c. c.places) chunks

  at_place : (i : ℕ) → i < length (places_of b) → get_or chunk_of (get_or (places_of b) i 0) 0 ≡ chunk_number b.on_entry (0 + i) places_of_each
  at_place i h =
      numbers (get_or (places_of b) i 0) (places_mem b (get_or (places_of b) i 0) (get_or_mem (places_of b) i 0 h)).0
      ∙ place_number b distinct i h b.on_entry chunks
      ∙ ap (λ q. chunk_number b.on_entry q places_of_each) (sym (zero-add i))

  chained : Chained n at (modules_of_each b chunks) entry before.first_of (linked chunk_of b.on_entry at (places_of b) entry)
  chained =
      subst (λ ms. Chained n at ms entry before.first_of (linked chunk_of b.on_entry at (places_of b) entry)) members
      (order_chained n at b.on_entry chunk_of before.first_of entry places_of_each
      (pairs_map Apart ApartPlaces (λ c. c.places) (λ c d i j h. h) apart) room
      (λ m h. ap (λ l. get_or l m 0) cleared.nexts ∙ module_read n (λ m. 0) before.next_of m h)
      (rw cleared.nexts (module_long n (λ m. 0) before.next_of))
      (cleared.firsts ∙ ap (λ k. placed at (replicate k 0) before.first_of) (sym (length-map chunks (λ c. c.places))))
      0 distinct (λ m i. (places_mem b m i).0) at_place)

  pub link_writes : Linked b at chunks before (linked chunk_of b.on_entry at (places_of b) entry)
  link_writes = record {
    nexts =
        per_module_lem n (λ m. next_module m (modules_of_each b chunks)) before.next_of (linked chunk_of b.on_entry at (places_of b) entry).next_of
        chained.long chained.nexts
        (chained.rest ∙ ap (λ l. drop n l) cleared.nexts ∙ module_rest n (λ m. 0) before.next_of);
    firsts = chained.firsts;
  }
