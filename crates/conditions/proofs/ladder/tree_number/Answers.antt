-- `conditions::ladder::tree_number` meets its contract: the first condition that applies gives the number.
use mathlib.Core.Path.{sym, ◌∙◌}
use Rattle.refusal.proofs.Ladder.{none_applies, applies, passes, number, no_number}
use Rattle.conditions.specs.Ladder.{tree_tests}
use Rattle.conditions.proofs.ladder.tree_number.Goals as goal

pub returns-then-bad_total : goal.returns-then-bad_total
unfolding tree_tests
returns-then-bad_total c =
    λ b h r.
    number (applies (sym (c.bad_total.ensures b h) ∙ c.if-bad_total.true))

pub returns-then-bad_dependency : goal.returns-then-bad_dependency
unfolding tree_tests
returns-then-bad_dependency c =
    λ b h r.
    number (passes (sym (c.bad_total.ensures b h) ∙ c.if-bad_total.false)
    (applies (sym (c.bad_dependency.ensures b r) ∙ c.if-bad_dependency.true)))

pub returns : goal.returns
unfolding tree_tests
returns c =
    λ b h r.
    no_number (passes (sym (c.bad_total.ensures b h) ∙ c.if-bad_total.false)
    (passes (sym (c.bad_dependency.ensures b r) ∙ c.if-bad_dependency.false) none_applies))
