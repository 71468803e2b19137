-- `gentropi::similar::gentropi_similarity` meets its contract: each arm's answer is the call's outcome, whose number and value compute.
use mathlib.Core.Path.{sym, ap, ◌∙◌}
use Rattle.refusal.specs.Outcome.{value_or}
use Rattle.refusal.specs.Answers.{outcome_of}
use Rattle.gentropi.proofs.Answering.{number_of_lem, places_after}
use Rattle.gentropi.proofs.similar.gentropi_similarity.Goals as goal

pub returns-in-Err : goal.returns-in-Err
returns-in-Err c =
    let same = sym (ap outcome_of c.in-Err.is) ∙ c.stable_id_similarity-answer.ensures in
    (c.number.ensures ∙ number_of_lem same, places_after same value_or _)

pub returns-in-Ok : goal.returns-in-Ok
returns-in-Ok c =
    let same = sym (ap outcome_of c.in-Ok.is) ∙ c.stable_id_similarity-answer.ensures in
    (number_of_lem same, places_after same value_or _)
