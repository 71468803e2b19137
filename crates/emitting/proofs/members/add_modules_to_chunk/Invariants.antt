-- `emitting::members::add_modules_to_chunk` meets its contract. The loop's invariant: the first i modules have the number.
use Prim.Native.Nat.{◌≤◌}
use mathlib.Core.Path.{◌≡◌}
use lib.ListN.{length, take}
use Rattle.emitting.specs.Emitted.{with_number}
use Rattle.emitting.proofs.members.add_modules_to_chunk.Given as goal

abbrev pub invariant-loop-module : goal.invariant-loop-module
invariant-loop-module l =
    (l.chunk_of ≡ with_number (take l.module-index l.members) l.number l.initial.chunk_of) × (l.module-index ≤ length l.members) × (length l.chunk_of ≡ length l.initial.chunk_of)
