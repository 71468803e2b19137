-- The empty set is what `BitSet::new` ensures.
use mathlib.Core.Path.{ap₂}
use lib.Ieee.{Float}
use Rattle.bitset.specs.declared.entries.BitSet.{BitSet}
use Rattle.joins.specs.Subgroup.{Subgroup}
use Rattle.joins.proofs.Doubles.{zero_double}
use Rattle.joins.proofs.subgroup.Subgroup.vanished.Goals as goal

pub returns : goal.returns
returns c = ap₂ {C = Subgroup} (λ (x : Float) (b : BitSet). record { number = c.args.self.number; size = x; bits = b }) zero_double c.new.ensures
