-- Several chunks: those of an append are emitted one list after the other, and the areas keep their lengths.
use Prim.Native.Nat.{ℕ, suc, ◌+◌, ◌*◌, ◌≤◌}
use mathlib.Core.List.{List, [], ◌∷◌}
use native.Mathlib.Omega.{arith}
use lib.ListN.{length}
use Rattle.emitting.specs.Emitted.{Work, Emission, with_chunk, with_chunks, SameLengths}
use Rattle.emitting.proofs.Chunk.{same_lengths, lengths_kept, room_kept}

-- chunks with room for the words of their records keep the lengths of all areas
pub chunks_lengths : (bits : List ℕ) (number at : ℕ) (es : List Emission) (w : Work) → 4 * at + 4 * length es ≤ length w.bits_of
    → SameLengths (with_chunks bits number at es w) w
unfolding with_chunks
chunks_lengths bits number at [] w h = same_lengths w
chunks_lengths bits number at (e ∷ es) w h =
    let kept = room_kept bits number at e w (omega arith) in
    lengths_kept (chunks_lengths bits (suc number) (suc at) es (with_chunk bits number at e w) (omega (arith, kept.bits_of))) kept
