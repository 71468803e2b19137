-- The chains of the chunks of a build, before the pass and after it.
use Rattle.std.specs.Prelude.{ℕ, List, map, ◌≡◌, length, replicate}
use Rattle.grouping.specs.Given.{Given, ModuleAreas, ChunkRecords}
use Rattle.grouping.specs.ChunkList.{Chunk}
use Rattle.grouping.specs.Written.{next_module, first_module, per_module}
use Rattle.lists.specs.Area.{placed}
use Rattle.emitting.specs.Emitted.{Work}
use Rattle.linking.specs.Links.{Links}
use Rattle.linking.specs.Made.{modules_of_each}

-- zeros for all modules and all chunks, the areas `before` elsewhere
pub record Cleared (b : Given) (at : ℕ) (chunks : List Chunk) (before entry : Links) : Type 0 where
  pub nexts : entry.next_of ≡ per_module b.shared.n (λ m. 0) before.next_of
  pub firsts : entry.first_of ≡ placed at (replicate (length chunks) 0) before.first_of

-- "the next module in its chunk plus 1 or 0" for all modules, "first module plus 1" for all chunks
pub record Linked (b : Given) (at : ℕ) (chunks : List Chunk) (before now : Links) : Type 0 where
  pub nexts : now.next_of ≡ per_module b.shared.n (λ m. next_module m (modules_of_each b chunks)) before.next_of
  pub firsts : now.first_of ≡ placed at (map first_module (modules_of_each b chunks)) before.first_of

-- the areas of a call, of those that are written as it goes and those of the pass at the end
abbrev pub module_areas : Work → Links → ModuleAreas
module_areas w l = record { chunk_of = w.chunk_of; next_of = l.next_of }

abbrev pub chunk_records : Work → Links → ChunkRecords
chunk_records w l =
    record {
      first_of = l.first_of;
      group_of = w.group_of;
      name_of = w.name_of;
      size_of = w.size_of;
      bits_of = w.bits_of;
      mark_of = w.mark_of;
    }
