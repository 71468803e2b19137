-- What a run asks, and what it writes.
use Rattle.std.specs.Prelude.{ℕ, ◌+◌, ◌*◌, ◌≤◌, ◌≡◌, length}
use Rattle.grouping.specs.Given.{Given, Areas}
use Rattle.grouping.specs.ChunkList.{chunk_list}
use Rattle.grouping.specs.Written.{written}
use Rattle.run.specs.Fits.{RunTables, RunFits}

-- the areas have an entry for each of n modules, a record for as many chunks, and 32 words of scratch for each module
pub record RunRoom (n at : ℕ) (a : Areas) : Type 0 where
  pub numbers : n ≤ length a.modules.chunk_of
  pub nexts : n ≤ length a.modules.next_of
  pub firsts : at + n ≤ length a.records.first_of
  pub groups : at + n ≤ length a.records.group_of
  pub names : at + n ≤ length a.records.name_of
  pub sizes : at + n ≤ length a.records.size_of
  pub words : 4 * at + 4 * n ≤ length a.records.bits_of
  pub marks : at + n ≤ length a.records.mark_of
  pub work : 32 * n ≤ length a.scratch

-- there is a build that the tables are of
pub record Running (t : RunTables) (on_entry at : ℕ) (a : Areas) : Type 0 where
  pub b : Given
  pub fits : RunFits b t on_entry
  pub small : on_entry ≤ 69631
  pub room : RunRoom t.n at a

-- the chunk list of the build is written
pub record Ran (b : Given) (at count : ℕ) (entry exit : Areas) : Type 0 where
  pub chunks : count ≡ length (chunk_list b)
  pub areas : exit ≡ written at b entry

pub record RunWritten (t : RunTables) (on_entry at count : ℕ) (entry exit : Areas) : Type 0 where
  pub of_build : (b : Given) → RunFits b t on_entry → Ran b at count entry exit
