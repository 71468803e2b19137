-- `conditions::ladder::value_number` meets its contract: the first condition that applies gives the number.
use mathlib.Core.Path.{sym, ◌∙◌}
use Rattle.refusal.proofs.Ladder.{none_applies, applies, passes, number, no_number}
use Rattle.conditions.specs.Ladder.{value_tests}
use Rattle.conditions.proofs.ladder.value_number.Goals as goal

pub returns-then-bad_bit : goal.returns-then-bad_bit
unfolding value_tests
returns-then-bad_bit c =
    λ b h a.
    number (applies (sym (c.bad_bit.ensures b h) ∙ c.if-bad_bit.true))

pub returns-then-bad_answer : goal.returns-then-bad_answer
unfolding value_tests
returns-then-bad_answer c =
    λ b h a.
    number (passes (sym (c.bad_bit.ensures b h) ∙ c.if-bad_bit.false)
    (applies (sym (c.bad_answer.ensures b a) ∙ c.if-bad_answer.true)))

pub returns : goal.returns
unfolding value_tests
returns c =
    λ b h a.
    no_number (passes (sym (c.bad_bit.ensures b h) ∙ c.if-bad_bit.false)
    (passes (sym (c.bad_answer.ensures b a) ∙ c.if-bad_answer.false) none_applies))
