-- `walk::plain::walk_plain` meets its contract. The loop's invariant is that of a walk with `head` modules taken off its list; the measure is how
-- many of the n modules can still be taken off.
use Prim.Native.Nat.{◌-◌}
use lib.ListN.{length}
use Rattle.walk.specs.Walk.{Walking}
use Rattle.walk.proofs.plain.walk_plain.Given as goal

abbrev pub invariant-loop-head : goal.invariant-loop-head
invariant-loop-head l =
    Walking l.flags l.records.first.now l.records.dependency.now l.records.next.now (length l.flags) (length l.records.next.now - 1) (record { marks = l.initial.marks; queue = l.initial.queue; tail = l.initial.found }) l.head
    (record { marks = l.marks; queue = l.queue; tail = l.found })

abbrev pub decreases-loop-head : goal.decreases-loop-head
decreases-loop-head l = length l.flags - l.head
