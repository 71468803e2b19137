-- The state of a run between two items: the chunks so far are those of some items, and the areas hold them. Chunk records begin at place `start`.
use Rattle.std.specs.Prelude.{ℕ, ◌+◌, ◌*◌, ◌≤◌, ◌≡◌, length}
use mathlib.Core.List.{List, [], foldl, Memᴰ}
use Rattle.emitting.specs.Emitted.{Work}
use Rattle.grouping.specs.Given.{Given}
use Rattle.grouping.specs.Tree.{tree_of, places_of}
use Rattle.grouping.specs.Item.{Item}
use Rattle.grouping.specs.ChunkList.{Chunk}
use Rattle.grouping_laws.proofs.SetPlaces.{Placed}
use Rattle.settling.specs.Settled.{settled}
use Rattle.linking.specs.Made.{Made}

-- the places of the items ascend and are places of the build
abbrev pub AllPlaced : Given → List Item → Type 0
AllPlaced b items = (i : Item) → Memᴰ i items → Placed (length (places_of b)) i.places

-- the chunks of some items
pub record Settling (b : Given) (chunks : List Chunk) : Type 0 where
  pub items : List Item
  pub placed : AllPlaced b items
  pub are : chunks ≡ foldl (settled (tree_of b)) [] items

-- there is room for a record for each module, from the first record of the run on
pub record Roomy (b : Given) (start : ℕ) (w : Work) : Type 0 where
  pub modules : b.shared.n ≤ length w.chunk_of
  pub groups : start + b.shared.n ≤ length w.group_of
  pub names : start + b.shared.n ≤ length w.name_of
  pub sizes : start + b.shared.n ≤ length w.size_of
  pub words : 4 * start + 4 * b.shared.n ≤ length w.bits_of
  pub marks : start + b.shared.n ≤ length w.mark_of

pub record State (b : Given) (start : ℕ) (chunks : List Chunk) (before now : Work) : Type 0 where
  pub settling : Settling b chunks
  pub made : Made b start chunks before now
  pub room : Roomy b start before

-- from the chunks so far to those after something more, of which there are so many: the number of the next chunk and the place of its record go on
pub record Advance (b : Given) (start : ℕ) (after : List Chunk → List Chunk) (number at count : ℕ) (entry exit : Work) : Type 0 where
  pub step : (before : Work) (chunks : List Chunk) → State b start chunks before entry → number ≡ b.on_entry + length chunks → at ≡ start + length chunks
      → State b start (after chunks) before exit × (length (after chunks) ≡ length chunks + count)

-- where something begins: a build, and the chunks so far, which no caller hands over
pub record Begun (b : Given) (start number at : ℕ) (now : Work) : Type 0 where
  pub before : Work
  pub chunks : List Chunk
  pub state : State b start chunks before now
  pub numbered : number ≡ b.on_entry + length chunks
  pub placed : at ≡ start + length chunks
