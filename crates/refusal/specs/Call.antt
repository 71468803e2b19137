-- A call with lent areas: what it answers, and what it leaves of the areas.
use Rattle.std.specs.Prelude.{ℕ, ◌≡◌}
use Rattle.refusal.specs.Outcome.{Outcome, refused, accepted}

-- The call has the outcome, and answers what `told` makes of it: an outcome itself, or for a host its number. A refusal leaves the areas as they
-- were, and an accepted call leaves them as `left` says.
pub record Call {A R Areas : Type 0} (told : Outcome A → R) (outcome : Outcome A) (answer : R) (before after : Areas) (left : A → Type 0) : Type 0 where
  pub number : answer ≡ told outcome
  pub refusal : (n : ℕ) → outcome ≡ refused n → after ≡ before
  pub answered : (a : A) → outcome ≡ accepted a → left a

-- an answer that is the outcome
abbrev pub whole : {A : Type 0} → Outcome A → Outcome A
whole o = o
