-- `subgroups::kinds::find_kind` meets its contract. The invariant: no kind from `at` on has the bits, and what `at` leads to has their bucket. The
-- measure is `at`: links fall.
use Rattle.subgroups.proofs.Chains.{Searching}
use Rattle.subgroups.proofs.kinds.find_kind.Given as goal

abbrev pub invariant-loop-at : goal.invariant-loop-at
invariant-loop-at l = Searching l.kind_bits l.count l.bits l.at

abbrev pub decreases-loop-at : goal.decreases-loop-at
decreases-loop-at l = l.at
