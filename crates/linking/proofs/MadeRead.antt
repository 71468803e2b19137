-- The areas between the items, read: a module's entry is its chunk's number, and all areas have the lengths that they had.
use Prim.Native.Nat.{ℕ, ◌+◌, ◌*◌, ◌≤◌, ◌<◌}
use mathlib.Core.List.{List, map}
use mathlib.Core.Path.{◌≡◌, ap, ◌∙◌}
use lib.ListN.{length, get_or, length-map}
use Rattle.lists.proofs.Distinct.{Distinct}
use Rattle.lists.proofs.Position.{get_or_mem}
use Rattle.grouping.specs.Given.{Given}
use Rattle.grouping.specs.Tree.{places_of}
use Rattle.grouping.specs.ChunkList.{Chunk}
use Rattle.grouping.specs.Written.{chunk_number, bit_words}
use Rattle.lists.specs.Area.{placed}
use Rattle.grouping_laws.proofs.Places.{places_mem}
use Rattle.settling.specs.Modules.{module_at}
use Rattle.emitting.specs.Emitted.{Work, SameLengths}
use Rattle.linking.specs.Made.{modules_of_each, Made, HasRoom}
use Rattle.linking.proofs.PerModule.{module_read, module_long, module_length}
use Rattle.lists.proofs.Placed.{placed_length}
use Rattle.linking.proofs.BitWords.{words_count}
use Rattle.linking.proofs.ChunkModules.{place_number}

area_length : {A : Type 0} (at : ℕ) (chunks : List Chunk) (value : Chunk → A) (area : List A) → at + length chunks ≤ length area
    → length (placed at (map value chunks) area) ≡ length area
area_length at chunks value area fits = placed_length at (map value chunks) area (rw (length-map chunks value) fits)

module _ {b : Given} {at : ℕ} {chunks : List Chunk} {before now : Work} where
  pub made_long : Made b at chunks before now → b.shared.n ≤ length now.chunk_of
  made_long made = rw made.numbers (module_long b.shared.n (λ m. chunk_number b.on_entry m (modules_of_each b chunks)) before.chunk_of)

  pub made_number : Made b at chunks before now → (m : ℕ) → m < b.shared.n
      → get_or now.chunk_of m 0 ≡ chunk_number b.on_entry m (modules_of_each b chunks)
  made_number made m h =
      ap (λ l. get_or l m 0) made.numbers
      ∙ module_read b.shared.n (λ m. chunk_number b.on_entry m (modules_of_each b chunks)) before.chunk_of m h

  pub made_place : Distinct (places_of b) → Made b at chunks before now → (p : ℕ) → p < length (places_of b)
      → get_or now.chunk_of (module_at b p) 0 ≡ chunk_number b.on_entry p (map (λ c. c.places) chunks)
  made_place distinct made p h =
      made_number made (module_at b p) (places_mem b (module_at b p) (get_or_mem (places_of b) p 0 h)).0 ∙ place_number b distinct p h b.on_entry chunks

  pub made_lengths : Made b at chunks before now → b.shared.n ≤ length before.chunk_of → HasRoom at (length chunks) before → SameLengths now before
  made_lengths made entries room = record {
    chunk_of =
        ap length made.numbers
        ∙ module_length b.shared.n (λ m. chunk_number b.on_entry m (modules_of_each b chunks)) before.chunk_of entries;
    group_of = ap length made.groups ∙ area_length at chunks (λ c. c.group) before.group_of room.groups;
    name_of = ap length made.names ∙ area_length at chunks (λ c. c.name) before.name_of room.names;
    size_of = ap length made.sizes ∙ area_length at chunks (λ c. c.size) before.size_of room.sizes;
    bits_of =
        ap length made.bits
        ∙ placed_length (4 * at) (bit_words chunks) before.bits_of (rw (words_count chunks made.four_words) room.words);
    mark_of = ap length made.marks ∙ area_length at chunks (λ c. c.mark) before.mark_of room.marks;
  }
