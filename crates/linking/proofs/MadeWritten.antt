-- Once all chunks are made and the pass is done, the areas are those that the definition writes.
use Prim.Native.Nat.{ℕ, ◌+◌, ◌^◌, ◌≤◌, ◌<◌}
use mathlib.Core.List.{List, map}
use mathlib.Core.Logic.{⊎_elim}
use mathlib.Core.Path.{◌≡◌, ◌∙◌}
use native.Mathlib.Omega.{arith}
use lib.ListN.{length, get_or, length-map}
use Rattle.lists.proofs.Distinct.{Distinct}
use Rattle.lists.proofs.Position.{get_or_mem}
use Rattle.lists.proofs.Sort.{Pairs, pairs_map}
use Rattle.grouping.specs.Given.{Given}
use Rattle.grouping.specs.Settings.{all_settings}
use Rattle.grouping.specs.Tree.{places_of, tree_of}
use Rattle.grouping.specs.ChunkList.{Chunk, chunk_list}
use Rattle.grouping.specs.Written.{members_of, written_modules, written_records}
use Rattle.grouping_laws.proofs.Accepted.{Sound}
use Rattle.grouping_laws.proofs.ChunkPlaces.{Apart, chunks_apart}
use Rattle.grouping_laws.proofs.Places.{places_mem}
use Rattle.emitting.specs.Emitted.{Work}
use Rattle.linking.specs.Links.{Links, linked, Linkable}
use Rattle.linking.specs.Made.{Made}
use Rattle.linking.specs.Chains.{Cleared, Linked, module_areas, chunk_records}
use Rattle.linking.proofs.Found.{ApartPlaces, find, none_number, found_number, found_below}
use Rattle.linking.proofs.ChunkModules.{places_distinct}
use Rattle.linking.proofs.LinkWrites.{link_writes}
use Rattle.linking.proofs.MadeRead.{made_long, made_number, made_place}

module _ (b : Given) (at : ℕ) (chunks : List Chunk) (before now : Work) (distinct : Distinct (places_of b)) (apart : Pairs Apart chunks)
    (made : Made b at chunks before now) where
  -- a module with a chunk number has a chunk's
  placed_number : (i : ℕ) → i < length (places_of b) → 0 < get_or now.chunk_of (get_or (places_of b) i 0) 0
      → (j : ℕ) × (j < length chunks) × (get_or now.chunk_of (get_or (places_of b) i 0) 0 ≡ b.on_entry + j + 1)
  placed_number i h k =
      let e = made_place distinct made i h in
      let places = map (λ c. c.places) chunks in
      ⊎_elim
      (λ z. let none : get_or now.chunk_of (get_or (places_of b) i 0) 0 ≡ 0 = e ∙ none_number b.on_entry i places z in absurd (omega arith))
      (λ f. (f.0, omega (arith, found_below f.1, length-map chunks (λ c. c.places)), e ∙ found_number b.on_entry f.1))
      (find i (pairs_map Apart ApartPlaces (λ c. c.places) (λ c d u v p. p) apart))

  -- what the pass requires
  pub made_linkable : (entry : Links) → b.shared.n < 2 ^ 32 → b.shared.n ≤ length entry.next_of → at + length chunks ≤ length entry.first_of
      → Linkable (places_of b) now.chunk_of b.on_entry at entry
  made_linkable entry few long room = record {
    fits = λ i h. omega (arith, below i h);
    numbered = λ i h. omega (arith, below i h, made_long made);
    chained = λ i h. omega (arith, below i h);
    number = λ i h k. let s = placed_number i h k in omega (arith, s.2);
    record_in = λ i h k. let s = placed_number i h k in omega (arith, s.1, s.2);
  }
    where
      below : (i : ℕ) → i < length (places_of b) → get_or (places_of b) i 0 < b.shared.n
      below i h = (places_mem b (get_or (places_of b) i 0) (get_or_mem (places_of b) i 0 h)).0

module _ (b : Given) (at : ℕ) (before now : Work) (made : Made b at (chunk_list b) before now) where
  -- the pass chains the chunks of the chunk list
  pub made_linked : Sound b → (links entry : Links) → at ≤ length links.first_of → Cleared b at (chunk_list b) links entry
      → Linked b at (chunk_list b) links (linked now.chunk_of b.on_entry at (places_of b) entry)
  unfolding chunk_list
  made_linked sound links entry room cleared =
      let distinct = places_distinct b sound in
      link_writes b at (chunk_list b) now.chunk_of links entry distinct (chunks_apart b.shared.k (all_settings b) (tree_of b))
      (made_number made) room cleared

  module _ (links linksNow : Links) (chained : Linked b at (chunk_list b) links linksNow) where
    made_modules : module_areas now linksNow ≡ written_modules b (module_areas before links)
    unfolding written_modules members_of
    made_modules = λ i. record { chunk_of = made.numbers i; next_of = chained.nexts i }

    made_records : chunk_records now linksNow ≡ written_records at b (chunk_records before links)
    unfolding written_records members_of
    made_records = λ i. record {
      first_of = chained.firsts i;
      group_of = made.groups i;
      name_of = made.names i;
      size_of = made.sizes i;
      bits_of = made.bits i;
      mark_of = made.marks i;
    }

    pub made_written : (module_areas now linksNow ≡ written_modules b (module_areas before links))
        × (chunk_records now linksNow ≡ written_records at b (chunk_records before links))
    made_written = (made_modules, made_records)
