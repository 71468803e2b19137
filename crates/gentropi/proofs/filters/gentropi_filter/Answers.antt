-- `gentropi::filters::gentropi_filter` meets its contract: the filter is the one given, and each arm's answer is the call's outcome.
use mathlib.Core.Path.{sym, ap, ◌∙◌}
use Rattle.refusal.specs.Outcome.{value_or}
use Rattle.refusal.specs.Answers.{outcome_of}
use Rattle.gentropi.proofs.Answering.{number_of_lem, places_after}
use Rattle.gentropi.proofs.filters.gentropi_filter.Goals as goal

pub returns-in-Err : goal.returns-in-Err
returns-in-Err c =
    let e = rw (c.then_some.ensures, c.then_some-2.ensures, c.then_some-3.ensures) at c.passes_static_filters-answer.ensures in
    let same = sym (ap outcome_of c.in-Err.is) ∙ e in
    record { number = c.number.ensures ∙ number_of_lem same; place = places_after same value_or _ }

pub returns-in-Ok : goal.returns-in-Ok
returns-in-Ok c =
    let e = rw (c.then_some.ensures, c.then_some-2.ensures, c.then_some-3.ensures) at c.passes_static_filters-answer.ensures in
    let same = sym (ap outcome_of c.in-Ok.is) ∙ e in
    record { number = number_of_lem same; place = places_after same value_or _ }
