-- The invariant: the fewest so far is that of the first i words of the block.
use Prim.Native.Nat.{◌≤◌}
use mathlib.Core.Path.{◌≡◌}
use Rattle.seeking.specs.Listed.{fewest}
use Rattle.seeking.proofs.words.fewest_of_block.Given as goal

abbrev pub invariant-loop-i : goal.invariant-loop-i
invariant-loop-i l = (l.i ≤ 16) × (l.least ≡ fewest l.words l.wanted l.from l.i)
