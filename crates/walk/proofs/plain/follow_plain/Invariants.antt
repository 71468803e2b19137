-- `walk::plain::follow_plain` meets its contract. The loop's invariant: what is left to do from record r on is what was to be done from the chain's
-- first record on. The measure is the number of records left, and with those gone along they are not many.
use Prim.Native.Nat.{◌-◌}
use lib.ListN.{length}
use Rattle.walk.specs.Chains.{named_from}
use Rattle.walk.proofs.Passing.{Passing}
use Rattle.walk.proofs.plain.follow_plain.Given as goal

abbrev pub invariant-loop-r : goal.invariant-loop-r
invariant-loop-r l =
    Passing l.flags l.dependency l.next (length l.flags) (length l.next - 1) (record { marks = l.initial.marks; queue = l.initial.queue; tail = l.initial.found }) l.initial.count l.initial.r
    (record { marks = l.marks; queue = l.queue; tail = l.found }) l.count l.r

abbrev pub decreases-loop-r : goal.decreases-loop-r
decreases-loop-r l = length (named_from l.dependency l.next (length l.next - 1) l.r)
