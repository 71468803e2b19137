-- `contiguous::lay_chain` meets its contract. The loop's invariant: the chain is laid up to its record r. The measure is the room that is left.
use Prim.Native.Nat.{◌-◌, ◌≤◌}
use lib.ListN.{length}
use Rattle.contiguous.specs.Laid.{Laying}
use Rattle.contiguous.proofs.lay_chain.Given as goal

abbrev pub invariant-loop-r : goal.invariant-loop-r
invariant-loop-r l =
    Laying l.dependency l.next (length l.next - 1) l.from l.at l.initial.to_dependency l.initial.to_next l.first l.to l.r l.to_dependency l.to_next × (l.to ≤ l.room)

abbrev pub decreases-loop-r : goal.decreases-loop-r
decreases-loop-r l = l.room - l.to
