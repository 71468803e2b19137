-- `walk::walk::follow` meets its contract. The loop's invariant: what is left to do from record r on is what was to be done from the chain's
-- first record on. The measure is the number of records left.
use Prim.Native.Nat.{◌-◌}
use lib.ListN.{length}
use Rattle.records.specs.Chain.{chain_from}
use Rattle.walk.proofs.Chains.{Following}
use Rattle.walk.proofs.walk.follow.Given as goal

abbrev pub invariant-loop-followed : goal.invariant-loop-followed
invariant-loop-followed l =
    Following l.flags l.records.dependency.now l.records.next.now (length l.flags) (length l.records.next.now - 1) (record { marks = l.initial.marks; queue = l.initial.queue; tail = l.initial.found }) l.initial.followed l.initial.r
    (record { marks = l.marks; queue = l.queue; tail = l.found }) l.followed l.r

abbrev pub decreases-loop-followed : goal.decreases-loop-followed
decreases-loop-followed l = length (chain_from l.records.next.now (length l.records.next.now - 1) l.r)
