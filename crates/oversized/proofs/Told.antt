-- What is known of the answer of a cut that is not one: by its tag it is one of the first two.
use Prim.Native.Nat.{ℕ}
use mathlib.Core.Logic.{◌⊎◌, ⊎_elim}
use mathlib.Core.Path.{◌≡◌}
use native.Mathlib.Omega.{arith}
use denote.Enum.Declared.{tag_of}
use Rattle.cut.specs.Call.{chosen_of}
use Rattle.cut.specs.declared.Cut.{Cut}
use Rattle.cut.specs.declared.Cut.TheVariants.{FewerThanTwo, NoneAllowed, At}
use Rattle.cut.specs.contracts.Cut.{the_type}
use Rattle.cut.proofs.Answer.{NoCut}

pub told_none : (answer : Cut) → (tag_of the_type answer ≡ 0) ⊎ (tag_of the_type answer ≡ 1) → NoCut (chosen_of answer)
told_none FewerThanTwo h = tt
told_none NoneAllowed h = tt
told_none (At c) h =
    absurd (⊎_elim (λ e. let z : ◌≡◌ {A = ℕ} 2 0 = e in omega arith) (λ e. let z : ◌≡◌ {A = ℕ} 2 1 = e in omega arith) h)
