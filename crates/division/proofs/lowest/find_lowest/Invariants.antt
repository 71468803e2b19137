-- `division::lowest::find_lowest` meets its contract: one position more is looked at a turn.
use Prim.Native.Nat.{◌≤◌}
use mathlib.Core.Path.{◌≡◌}
use lib.ListN.{length}
use Rattle.division.specs.Divided.{lowest_ranks}
use Rattle.division.proofs.lowest.find_lowest.Given as goal

abbrev pub invariant-loop-i : goal.invariant-loop-i
invariant-loop-i l = (l.i ≤ length l.kind_of) × (l.lowest ≡ lowest_ranks l.finals l.kind_of l.set l.rank (length l.kind_of) l.i)
