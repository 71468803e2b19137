-- `sums::names::count_answers` meets its contract. The loop's invariant: the answers passed are met and counted.
use Rattle.sums.proofs.MetNames.{Counting}
use Rattle.sums.proofs.names.count_answers.Given as goal

abbrev pub invariant-loop-answer : goal.invariant-loop-answer
invariant-loop-answer l = Counting l.row l.initial.seen l.mark l.answer-index l.seen l.count
