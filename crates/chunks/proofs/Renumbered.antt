-- The renumbering rule holds of every two accepted calls of `split`, which ask for the scratch of the paper.
use Prim.Native.Nat.{ℕ}
use mathlib.Core.Path.{◌≡◌}
use Rattle.grouping.specs.Given.{Given, Areas}
use Rattle.grouping.specs.Conditions.{scratch_need}
use Rattle.grouping.specs.Call.{ChunksCall}
use Rattle.grouping.specs.Renumbering.{Renumbering, Alike, SameList}
use Rattle.grouping_laws.proofs.Renumbered.{renumbering_rule}
use Rattle.std.specs.Prelude.Result.{Ok}
use Rattle.refusal.specs.Answers.{outcome_of}

pub renumbered : (ρ : ℕ → ℕ) (a b : Given) (count count' : ℕ) (before after before' after' : Areas)
    → Renumbering a.shared.n ρ → Alike ρ a b
    → ChunksCall scratch_need a (outcome_of (Ok count)) before after
    → ChunksCall scratch_need b (outcome_of (Ok count')) before' after'
    → (count ≡ count') × SameList ρ a.shared.n count after after'
renumbered ρ a b = renumbering_rule ρ scratch_need scratch_need a b
