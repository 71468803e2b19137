-- `sets::gathered::keep_marked` meets its contract: one module more a turn, which is left if it is marked.
use Rattle.sets.proofs.Leaving.{Leaving}
use Rattle.sets.proofs.gathered.keep_marked.Given as goal

abbrev pub invariant-loop-i : goal.invariant-loop-i
invariant-loop-i l = Leaving l.marks l.initial.list l.i l.count l.list
