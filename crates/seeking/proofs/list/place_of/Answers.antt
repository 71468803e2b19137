-- The search finds the number, since the list has it.
use mathlib.Core.Path.{subst}
use Prim.Native.Nat.{ℕ}
use Rattle.std.specs.Prelude.{Result, MatchResult}
use Rattle.seeking.specs.Listed.{StandsAt}
use Rattle.seeking.proofs.Halving.{found_place}
use Rattle.seeking.proofs.list.place_of.Goals as goal

pub returns-in-Ok : goal.returns-in-Ok
returns-in-Ok c =
    let a = c.args in
    subst (λ (r : Result ℕ ℕ). MatchResult r (λ i. StandsAt a.list.now a.number i) (λ i. ⊥)) c.in-Ok.is
    (found_place a.list.now a.number c.requires.0 c.requires.1 c.binary_search.result c.binary_search.ensures.position)

pub returns-in-Err : goal.returns-in-Err
returns-in-Err c =
    let a = c.args in
    absurd (subst (λ (r : Result ℕ ℕ). MatchResult r (λ i. StandsAt a.list.now a.number i) (λ i. ⊥)) c.in-Err.is
    (found_place a.list.now a.number c.requires.0 c.requires.1 c.binary_search.result c.binary_search.ensures.position))
