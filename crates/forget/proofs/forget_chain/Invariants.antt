-- `forget::forget_chain` meets its contract. The loop's invariant: what is left to undo from record r on is what was to be undone from the
-- chain's first record on. The measure is the number of records left.
use Prim.Native.Nat.{◌-◌}
use lib.ListN.{length}
use Rattle.records.specs.Chain.{chain_from}
use Rattle.forget.proofs.Undoing.{Forgetting}
use Rattle.forget.proofs.forget_chain.Given as goal

abbrev pub invariant-loop-followed : goal.invariant-loop-followed
invariant-loop-followed l = Forgetting l.next (length l.next - 1) l.initial.followed l.initial.r l.followed l.r

abbrev pub decreases-loop-followed : goal.decreases-loop-followed
decreases-loop-followed l = length (chain_from l.next (length l.next - 1) l.r)
