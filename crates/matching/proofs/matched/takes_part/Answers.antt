-- `matching::matched::takes_part` meets its contract: an answer below 2 has no name, and any other leaves it to the filter.
use Rattle.std.proofs.Common.{le-leb}
use borrow.Author.Tests.{lt-leb}
use Rattle.matching.specs.Matched.{takes}
use Rattle.matching.proofs.matched.takes_part.Goals as goal

-- src/matched.rt:19:9
pub returns-then-answer-lt2 : goal.returns-then-answer-lt2
unfolding takes
returns-then-answer-lt2 c = rw (lt-leb 2 c.args.answer c.if-answer-lt2.true)

-- src/matched.rt:14:1
pub returns : goal.returns
unfolding takes
returns c = rw (le-leb 2 c.args.answer c.if-answer-lt2.false) c.passes_within.ensures
