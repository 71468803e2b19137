-- `sets::gathered::gather_marked` meets its contract: one module more a turn, if it is marked, or a block more without any.
use Prim.Native.Nat.{◌-◌}
use lib.ListN.{length, take}
use Rattle.matching.proofs.Writing.{Writing}
use Rattle.sets.specs.Gathered.{marked_in}
use Rattle.sets.proofs.gathered.gather_marked.Given as goal

abbrev pub invariant-loop-i : goal.invariant-loop-i
invariant-loop-i l = Writing (marked_in l.marks (take l.i l.order)) l.i l.count l.initial.set l.set

abbrev pub decreases-loop-i : goal.decreases-loop-i
decreases-loop-i l = length l.order - l.i
