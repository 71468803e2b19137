-- `sums::answers::bad_answer` meets its contract. The loop's invariant: whether some answer passed is K+2 or more.
use mathlib.Core.Path.{◌≡◌, refl, ap, ◌∙◌}
use native.Mathlib.Omega.{arith}
use lib.ListN.{length}
use Rattle.lists.specs.Below.{any_below}
use Rattle.lists.proofs.Below.{any_last}
use Rattle.grouping.specs.Conditions.{bad_answer}
use Rattle.sums.proofs.answers.bad_answer.Invariants.{above}
use Rattle.sums.proofs.answers.bad_answer.Goals as goal

pub loop-answer-init : goal.loop-answer-init
unfolding any_below
loop-answer-init c = refl

pub loop-answer-preserved : goal.loop-answer-preserved
loop-answer-preserved c =
    let l = c.loop-answer in
    rw l.invariant (any_last (above c.args.k c.args.answers.now) l.answer-index)

pub returns : goal.returns
unfolding bad_answer
returns c =
    let s = c.args in
    let l = c.loop-answer in
    let e : l.answer-index ≡ length s.answers.now = omega arith in
    λ b h. rw (h.name_count, h.all_answers, h.answer_count) (l.invariant ∙ ap (any_below (above s.k s.answers.now)) e)
