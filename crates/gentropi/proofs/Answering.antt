-- What an exported function has to show where its callee's answer is known: the number and the places are those of the answer's outcome.
use mathlib.Core.Path.{◌≡◌, ap}
use Rattle.refusal.specs.Outcome.{Outcome, number_of}

-- answer is the outcome that an arm of a match knows, call the one that the callee's contract speaks of
module _ {A : Type 0} {answer call : Outcome A} (same : answer ≡ call) where
  pub number_of_lem : number_of answer ≡ number_of call
  number_of_lem = ap number_of same

  -- places as they are after an outcome
  pub places_after : {P : Type 0} (after : Outcome A → P → P) (before : P) → after answer before ≡ after call before
  places_after after before = ap (λ (o : Outcome A). after o before) same
