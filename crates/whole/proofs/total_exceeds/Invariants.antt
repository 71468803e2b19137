-- `whole::total_exceeds` answers whether the sizes add to more than 2^53. The loop's invariant: `total` is the sum of the sizes passed,
-- and at most 2^53. A part of the sizes that adds to more is enough, since the others only add to it.
use Prim.Native.Nat.{◌≤◌}
use mathlib.Core.Path.{◌≡◌}
use lib.ListN.{take}
use Rattle.lists.specs.Sum.{sum}
use Rattle.whole.specs.Total.{total_limit}
use Rattle.whole.proofs.total_exceeds.Given as goal

abbrev pub invariant-loop-size : goal.invariant-loop-size
invariant-loop-size l = (l.total ≡ sum (take l.size-index l.sizes)) × (l.total ≤ total_limit)
