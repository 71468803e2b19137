-- `records::know_chain` meets its contract. The loop's invariant: what is left to mark from record r on is what was to be marked from the
-- chain's first record on. The measure is the number of records left.
use lib.ListN.{length}
use Rattle.records.specs.Chain.{chain_from}
use Rattle.records.proofs.Marking.{Marking}
use Rattle.records.proofs.know_chain.Given as goal

abbrev pub invariant-loop-known : goal.invariant-loop-known
invariant-loop-known l = Marking l.next l.d l.initial.known l.initial.r l.known l.r

abbrev pub decreases-loop-known : goal.decreases-loop-known
decreases-loop-known l = length (chain_from l.next l.d l.r)
