-- Bits are the same if each of the four words is.
use Rattle.std.proofs.Math.Bool.{and_assoc}
use Rattle.grouping.specs.Subgroups.{same_bits}
use Rattle.subgroups.proofs.kinds.same_bits.Goals as goal

pub returns : goal.returns
unfolding same_bits
returns c = simp and_assoc
