-- Word by word, as the definition says.
use mathlib.Core.Path.{refl}
use Rattle.bitset.specs.Entries.{union_of}
use Rattle.bitset.proofs.entries.BitSet.union.Goals as goal

pub returns : goal.returns
unfolding union_of
returns c = refl
