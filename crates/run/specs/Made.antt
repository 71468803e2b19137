-- The chunks of a build, made over its eligible modules in execution order.
use Rattle.std.specs.Prelude.{ℕ, ◌*◌, ◌≤◌, List, ◌≡◌, length}
use Rattle.grouping.specs.Given.{Given}
use Rattle.grouping.specs.ChunkList.{chunk_list}
use Rattle.grouping.specs.Tree.{places_of}
use Rattle.emitting.specs.Emitted.{Work}
use Rattle.linking.specs.Made.{Made}
use Rattle.running.specs.State.{Roomy}
use Rattle.run.specs.Fits.{RunTables, TablesFit}

-- the tables are a build's, with its eligible modules in execution order
pub record PlacesFit (b : Given) (t : RunTables) (on_entry : ℕ) : Type 0 where
  pub tables : TablesFit b t on_entry
  pub order : t.walking.order ≡ places_of b

-- there is such a build, with room for a chunk of each module
pub record Making (t : RunTables) (on_entry at : ℕ) (now : Work) (scratch : List ℕ) : Type 0 where
  pub b : Given
  pub fits : PlacesFit b t on_entry
  pub small : on_entry ≤ 69631
  pub room : Roomy b at now
  pub work : 3 * t.n ≤ length scratch

-- all chunks are made: `count` of them, at most one for each module
pub record AllMade (b : Given) (at count : ℕ) (entry exit : Work) : Type 0 where
  pub chunks : count ≡ length (chunk_list b)
  pub few : count ≤ b.shared.n
  pub made : Made b at (chunk_list b) entry exit

pub record ChunksMade (t : RunTables) (on_entry at count : ℕ) (entry exit : Work) : Type 0 where
  pub of_build : (b : Given) → PlacesFit b t on_entry → Roomy b at entry → AllMade b at count entry exit
