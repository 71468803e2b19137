-- `sums::names::count_answers` meets its contract. The loop's invariant: the answers passed are met and counted.
use native.Mathlib.Omega.{arith}
use Rattle.sums.proofs.MetNames.{counting_begins, counting_turns, counting_ends}
use Rattle.sums.proofs.names.count_answers.Goals as goal

pub loop-answer-init : goal.loop-answer-init
loop-answer-init c = counting_begins c.args.row.now c.args.seen.now c.args.mark c.requires

pub meet-count-requires : goal.meet-count-requires
meet-count-requires c =
    let l = c.loop-answer in
    omega (arith, c.requires.within l.answer-index (omega arith), l.invariant.same_length)

pub overflow_add-count : goal.overflow_add-count
overflow_add-count c =
    let l = c.loop-answer in
    let inside = c.requires.within l.answer-index (omega arith) in
    let met = c.meet-count in
    let t = counting_turns c.args.row.now c.args.seen.now c.args.mark l.answer-index l.seen l.count l.invariant inside met.result
    met.ensures.0 in
    omega (arith, t.few)

pub loop-answer-preserved : goal.loop-answer-preserved
loop-answer-preserved c =
    let l = c.loop-answer in
    let inside = c.requires.within l.answer-index (omega arith) in
    let met = c.meet-count in
    let t = counting_turns c.args.row.now c.args.seen.now c.args.mark l.answer-index l.seen l.count l.invariant inside met.result
    met.ensures.0 in
    rw met.ensures.1 t

pub shape_of-seen : goal.shape_of-seen
shape_of-seen c = c.loop-answer.invariant.same_length

pub returns : goal.returns
returns c =
    let l = c.loop-answer in
    counting_ends c.args.row.now c.args.seen.now c.args.mark l.answer-index l.seen l.count l.invariant (omega arith)
