-- What an accepted call writes: the chunk list with module numbers for places.
use Rattle.std.specs.Prelude.{ℕ, suc, ◌+◌, ◌*◌, cond, eqb, length, drop, replicate}
use mathlib.Core.List.{List, [], ◌∷◌, ◌++◌, map, foldr}
use Rattle.lists.specs.Area.{placed}
use Rattle.lists.specs.Elem.{elem}
use Rattle.lists.specs.Keep.{keep_head}
use Rattle.lists.specs.Range.{range}
use Rattle.grouping.specs.Given.{Given, ModuleAreas, ChunkRecords, Areas}
use Rattle.grouping.specs.Tree.{places_of}
use Rattle.grouping.specs.ChunkList.{Chunk, chunk_list}

-- the modules at some of the places, in execution order; the first of them is at place p
unfoldable pub modules_from : ℕ → List ℕ → List ℕ → List ℕ
unfolding keep_head elem
modules_from p chosen [] = []
modules_from p chosen (m ∷ modules) = keep_head (elem p chosen) m (modules_from (suc p) chosen modules)

-- the modules of each chunk, in execution order
unfoldable pub members_of : Given → List (List ℕ)
unfolding modules_from places_of chunk_list
members_of b = map (λ c. modules_from 0 c.places (places_of b)) (chunk_list b)

-- "its chunk number plus 1 or 0"; the first chunk of the list has the number `number`
unfoldable pub chunk_number : ℕ → ℕ → List (List ℕ) → ℕ
unfolding elem
chunk_number number m [] = 0
chunk_number number m (modules ∷ chunks) = cond (elem m modules) (suc number) (chunk_number (suc number) m chunks)

-- the module after m in a chunk, plus 1, or 0
unfoldable pub after : ℕ → List ℕ → ℕ
after m [] = 0
after m (x ∷ []) = 0
after m (x ∷ y ∷ modules) = cond (eqb x m) (suc y) (after m (y ∷ modules))

-- "the next module in its chunk plus 1 or 0, in execution order"
unfoldable pub next_module : ℕ → List (List ℕ) → ℕ
unfolding elem after
next_module m [] = 0
next_module m (modules ∷ chunks) = cond (elem m modules) (after m modules) (next_module m chunks)

-- "first module plus 1"
abbrev pub first_module : List ℕ → ℕ
first_module [] = 0
first_module (m ∷ modules) = suc m

-- the entries for all modules, entries past N as they were
abbrev pub per_module : ℕ → (ℕ → ℕ) → List ℕ → List ℕ
per_module n value before = map value (range 0 n) ++ drop n before

-- the words of the chunks' entry bits
unfoldable pub bit_words : List Chunk → List ℕ
bit_words chunks = foldr (λ c words. c.bits.words ++ words) [] chunks

unfoldable pub written_modules : Given → ModuleAreas → ModuleAreas
unfolding range chunk_number next_module members_of
written_modules b before =
    record {
      chunk_of = per_module b.shared.n (λ m. chunk_number b.on_entry m (members_of b)) before.chunk_of;
      next_of = per_module b.shared.n (λ m. next_module m (members_of b)) before.next_of;
    }

unfoldable pub written_records : ℕ → Given → ChunkRecords → ChunkRecords
unfolding members_of chunk_list bit_words
written_records at b before =
    record {
      first_of = placed at (map first_module (members_of b)) before.first_of;
      group_of = placed at (map (λ c. c.group) (chunk_list b)) before.group_of;
      name_of = placed at (map (λ c. c.name) (chunk_list b)) before.name_of;
      size_of = placed at (map (λ c. c.size) (chunk_list b)) before.size_of;
      bits_of = placed (4 * at) (bit_words (chunk_list b)) before.bits_of;
      mark_of = placed at (map (λ c. c.mark) (chunk_list b)) before.mark_of;
    }

-- The content of the areas after an accepted call whose first new chunk has record `at`: entries past N and other records as they were, all of
-- scratch zeros.
unfoldable pub written : ℕ → Given → Areas → Areas
unfolding written_modules written_records
written at b before =
    record {
      modules = written_modules b before.modules;
      records = written_records at b before.records;
      scratch = replicate (length before.scratch) 0;
    }
