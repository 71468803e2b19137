-- `left::keep_left` meets its contract. The loop's invariant: what is left of the first i modules is written.
use Rattle.left.proofs.KeepLeft.{Passed}
use Rattle.left.proofs.keep_left.Given as goal

abbrev pub invariant-loop-module : goal.invariant-loop-module
invariant-loop-module l = Passed l.list l.chunk_of l.initial.members l.members l.count l.module-index
