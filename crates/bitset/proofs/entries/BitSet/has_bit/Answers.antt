-- The bit of the word of the entry, by what `test_bit` ensures.
use Rattle.bitset.specs.Entries.{has_bit}
use Rattle.bitset.proofs.entries.BitSet.has_bit.Goals as goal

pub returns : goal.returns
unfolding has_bit
returns c = c.test_bit.ensures
