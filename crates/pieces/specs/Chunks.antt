-- The chunks that modules in id order are emitted as in pieces: what they ask, and what they leave.
use Rattle.std.specs.Prelude.{ℕ, ◌+◌, ◌^◌, ◌<◌, List, map, ◌≡◌, Float, length}
use Rattle.whole.specs.Double.{sum_f64}
use Rattle.cut.specs.Order.{sizes_in}
use Rattle.settling.specs.Pieces.{pieces_of, mark_in}
use Rattle.oversized.specs.Cutting.{cutting_of, Pending}
use Rattle.emitting.specs.declared.emit.Head.{Head}
use Rattle.emitting.specs.Emitted.{Work, Emission, with_chunks, Room}

-- a chunk of some modules with a mark
abbrev pub chunk_of : List ℕ → Head → ℕ → List ℕ → Emission
chunk_of sizes head mark modules = record { head = head; modules = modules; size = sum_f64 (sizes_in sizes modules); mark = mark }

-- a chunk for each piece of modules in id order
abbrev pub chunks_of : List ℕ → List ℕ → List ℕ → Head → Float → Float → List ℕ → List Emission
chunks_of bytes offsets sizes head minimum maximum order =
    let c = cutting_of bytes offsets sizes minimum maximum in
    map (λ p. chunk_of sizes head (mark_in c p) p) (pieces_of c order)

-- what modules in id order ask that are emitted in pieces: they can be cut, and there are a number and room for a record for each of them
pub record PiecesReady (bytes offsets sizes order : List ℕ) (total : Float) (bits : List ℕ) (w : Work) (number at : ℕ) : Type 0 where
  pub pending : Pending bytes offsets sizes order total
  pub room : (j : ℕ) → j < length order → Room bits order w (at + j)
  pub numbers : number + length order < 2 ^ 32

-- what is there once chunks are emitted: so many of them, and the areas with them
pub record Converted (es : List Emission) (bits : List ℕ) (number at count : ℕ) (before after : Work) : Type 0 where
  pub made : count ≡ length es
  pub areas : after ≡ with_chunks bits number at es before
