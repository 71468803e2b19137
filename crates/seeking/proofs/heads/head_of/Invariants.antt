-- The invariant: `best` stands for the numbers of the block below i.
use Prim.Native.Nat.{◌≤◌}
use Rattle.seeking.proofs.Blocks.{LookedThrough}
use Rattle.seeking.proofs.heads.head_of.Given as goal

abbrev pub invariant-loop-i : goal.invariant-loop-i
invariant-loop-i l = (l.i ≤ l.end) × LookedThrough l.threshold l.sizes l.start l.i l.best
