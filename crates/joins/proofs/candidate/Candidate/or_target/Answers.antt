-- The nearest so far and one more are compared.
use mathlib.Core.Path.{sym, ap, ◌∙◌}
use Rattle.lists.specs.Least.{earlier}
use Rattle.joins.specs.Candidate.{comes_first}
use Rattle.joins.proofs.Nearest.{not_earlier, is_earlier}
use Rattle.joins.proofs.candidate.Candidate.or_target.Goals as goal

pub returns-then-comes_before : goal.returns-then-comes_before
returns-then-comes_before c =
    let x = c.target_at-x in
    let self = c.args.self in
    is_earlier self x.result (sym c.comes_before.ensures ∙ c.if-comes_before.true) ∙ ap (earlier comes_first self) x.ensures

pub returns : goal.returns
returns c =
    let x = c.target_at-x in
    let self = c.args.self in
    not_earlier self x.result (sym c.comes_before.ensures ∙ c.if-comes_before.false) ∙ ap (earlier comes_first self) x.ensures
