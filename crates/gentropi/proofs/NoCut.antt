-- The places after an answer of Cut that is not a cut, which its tag says.
use Prim.Native.Nat.{ℕ}
use mathlib.Core.Logic.{◌⊎◌, ⊎_elim}
use mathlib.Core.Path.{◌≡◌, refl}
use native.Mathlib.Omega.{arith}
use denote.Enum.Declared.{tag_of}
use Rattle.refusal.specs.Outcome.{accepted}
use Rattle.cut.specs.Call.{chosen_of}
use Rattle.cut.specs.declared.Cut.{Cut}
use Rattle.cut.specs.declared.Cut.TheVariants.{FewerThanTwo, NoneAllowed, At}
use Rattle.cut.specs.contracts.Cut.{the_type}
use Rattle.gentropi.specs.After.{CutPlaces, why_number, without_cut, cut_after}

pub without_cut_lem : (chosen : Cut) → (tag_of the_type chosen ≡ 0) ⊎ (tag_of the_type chosen ≡ 1) → (p : CutPlaces)
    → without_cut (why_number (chosen_of chosen)) p ≡ cut_after (accepted (chosen_of chosen)) p
without_cut_lem FewerThanTwo h p = refl
without_cut_lem NoneAllowed h p = refl
without_cut_lem (At c) h p =
    absurd (⊎_elim (λ e. let z : ◌≡◌ {A = ℕ} 2 0 = e in omega arith) (λ e. let z : ◌≡◌ {A = ℕ} 2 1 = e in omega arith) h)
