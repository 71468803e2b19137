-- The united bits are what `BitSet::union` ensures.
use mathlib.Core.Path.{ap}
use lib.Ieee.{add, binary64}
use Rattle.bitset.specs.declared.entries.BitSet.{BitSet}
use Rattle.joins.specs.Subgroup.{Subgroup, united}
use Rattle.joins.proofs.subgroup.Subgroup.joined_to.Goals as goal

pub returns : goal.returns
unfolding united
returns c =
    let a = c.args in
    ap {B = Subgroup} (λ (b : BitSet). record { number = a.target.number; size = add binary64 a.target.size a.self.size; bits = b }) c.union.ensures
