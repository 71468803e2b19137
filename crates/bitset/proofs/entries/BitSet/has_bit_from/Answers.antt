-- Word by word: the first word with an entry that far answers, and the last answers for itself.
use Rattle.std.proofs.Common.{arith}
use Rattle.std.proofs.lemmas.Grind.{common_steps}
use Rattle.bitset.proofs.Beyond.{beyond_words}
use Rattle.bitset.proofs.entries.BitSet.has_bit_from.Goals as goal

pub returns-then-any_from-3 : goal.returns-then-any_from-3
returns-then-any_from-3 c = grind (arith, common_steps, beyond_words c.args.entries c.args.self)

pub returns-else-any_from-3 : goal.returns-else-any_from-3
returns-else-any_from-3 c = grind (arith, common_steps, beyond_words c.args.entries c.args.self)
