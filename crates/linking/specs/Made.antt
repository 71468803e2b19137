-- The areas between the items of a run: what stands there once some of the chunks are made.
use Rattle.std.specs.Prelude.{ℕ, ◌+◌, ◌*◌, ◌≤◌, ◌≡◌, length}
use mathlib.Core.List.{List, [], ◌∷◌, map, Memᴰ}
use Rattle.grouping.specs.Given.{Given}
use Rattle.grouping.specs.Tree.{places_of}
use Rattle.grouping.specs.ChunkList.{Chunk}
use Rattle.grouping.specs.Written.{modules_from, chunk_number, per_module, bit_words}
use Rattle.lists.specs.Area.{placed}
use Rattle.emitting.specs.Emitted.{Work, Emission, bits_of_chunk}

-- the modules of a chunk, in execution order
abbrev pub modules_of : Given → Chunk → List ℕ
modules_of b c = modules_from 0 c.places (places_of b)

-- the modules of each of the chunks
abbrev pub modules_of_each : Given → List Chunk → List (List ℕ)
modules_of_each b chunks = map (modules_of b) chunks

-- the areas `now` are the areas `before` with these chunks, whose first has record `at`; each chunk has four words of entry bits
pub record Made (b : Given) (at : ℕ) (chunks : List Chunk) (before now : Work) : Type 0 where
  pub numbers : now.chunk_of ≡ per_module b.shared.n (λ m. chunk_number b.on_entry m (modules_of_each b chunks)) before.chunk_of
  pub groups : now.group_of ≡ placed at (map (λ c. c.group) chunks) before.group_of
  pub names : now.name_of ≡ placed at (map (λ c. c.name) chunks) before.name_of
  pub sizes : now.size_of ≡ placed at (map (λ c. c.size) chunks) before.size_of
  pub bits : now.bits_of ≡ placed (4 * at) (bit_words chunks) before.bits_of
  pub marks : now.mark_of ≡ placed at (map (λ c. c.mark) chunks) before.mark_of
  pub four_words : (c : Chunk) → Memᴰ c chunks → length c.bits.words ≡ 4

-- zeros for all modules, and all else as it was
pub record Fresh (b : Given) (before now : Work) : Type 0 where
  pub numbers : now.chunk_of ≡ per_module b.shared.n (λ m. 0) before.chunk_of
  pub groups : now.group_of ≡ before.group_of
  pub names : now.name_of ≡ before.name_of
  pub sizes : now.size_of ≡ before.size_of
  pub bits : now.bits_of ≡ before.bits_of
  pub marks : now.mark_of ≡ before.mark_of

-- a chunk as it is emitted: its modules are the chunk's in any order
pub record Matches (b : Given) (e : Emission) (c : Chunk) : Type 0 where
  pub group : e.head.group ≡ c.group
  pub name : e.head.name ≡ c.name
  pub size : e.size ≡ c.size
  pub bits : bits_of_chunk b.shared.bits e.head e.modules ≡ c.bits
  pub mark : e.mark ≡ c.mark
  pub four_words : length c.bits.words ≡ 4
  pub there : (m : ℕ) → Memᴰ m e.modules → Memᴰ m (modules_of b c)
  pub back : (m : ℕ) → Memᴰ m (modules_of b c) → Memᴰ m e.modules

-- chunks as they are emitted, one by one
pub data AllMatch (b : Given) : List Emission → List Chunk → Type 0 where
  none : AllMatch b [] []
  more : {e : Emission} {c : Chunk} {es : List Emission} {chunks : List Chunk}
      → Matches b e c → AllMatch b es chunks → AllMatch b (e ∷ es) (c ∷ chunks)

-- the areas have room for so many records from the place `at` on
pub record HasRoom (at count : ℕ) (w : Work) : Type 0 where
  pub groups : at + count ≤ length w.group_of
  pub names : at + count ≤ length w.name_of
  pub sizes : at + count ≤ length w.size_of
  pub words : 4 * at + 4 * count ≤ length w.bits_of
  pub marks : at + count ≤ length w.mark_of
