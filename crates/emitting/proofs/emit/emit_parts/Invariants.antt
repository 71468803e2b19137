-- `emitting::emit::emit_parts` meets its contract. The loop's invariant: the areas so far, continued with the parts to come.
use Prim.Native.Nat.{ℕ}
use mathlib.Core.List.{List}
use lib.Ieee.{Float}
use Rattle.emitting.specs.Emitted.{SameAreas, work}
use Rattle.emitting.proofs.Turn.{Emitted}
use Rattle.emitting.proofs.emit.emit_parts.Given as goal

abbrev pub invariant-loop-j : goal.invariant-loop-j
invariant-loop-j l =
    (Emitted l.head l.members l.starts l.sizes l.marks l.bits l.number.0 l.at (work l.initial.areas)
    (work l.areas) l.end l.j)
    × SameAreas l.initial.areas l.areas
