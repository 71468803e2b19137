-- The word and the mask agree with the mask exactly where the word has each of its bits.
use mathlib.Core.Path.{sym}
use Rattle.bitset.proofs.Bits.{contains_and}
use Rattle.bitset.proofs.word.contains_all.Goals as goal

pub returns : goal.returns
returns c = sym (contains_and c.args.word c.args.mask c.ranges.word.fits c.ranges.mask.fits)
