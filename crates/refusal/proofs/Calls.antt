-- A call with lent areas: one that refuses and leaves them, one that is accepted, and the same call for a host.
use Prim.Native.Nat.{ℕ}
use mathlib.Core.Path.{◌≡◌, refl, sym, ap, ◌∙◌}
use native.Mathlib.Omega.{arith}
use Rattle.refusal.specs.Outcome.{Outcome, refused, accepted, number_of, value_or}
use Rattle.refusal.specs.Call.{Call, whole}

pub never_both : {A : Type 0} {o : Outcome A} {n : ℕ} {a : A} → o ≡ refused n → o ≡ accepted a → ⊥
never_both e f = let z : ◌≡◌ {A = ℕ} 0 1 = cc in omega arith

module _ {A R Areas : Type 0} {told : Outcome A → R} {o : Outcome A} {left : A → Type 0} where
  pub refuses_call : {n : ℕ} (areas : Areas) → o ≡ refused n → Call told o (told (refused n)) areas areas left
  refuses_call areas e = record { number = ap told (sym e); refusal = λ m f. refl; answered = λ a f. absurd (never_both e f) }

  pub accepts_call : {v : A} {before after : Areas} → o ≡ accepted v → ((a : A) → left a) → Call told o (told (accepted v)) before after left
  accepts_call e h = record { number = ap told (sym e); refusal = λ n f. absurd (never_both f e); answered = λ a f. h a }

-- known is the outcome that an arm of a match knows
module _ {A Areas : Type 0} {o answer known : Outcome A} {before after : Areas} {left : A → Type 0} (told : answer ≡ known)
    (call : Call whole o answer before after left) where
  pub exported : Call number_of o (number_of known) before after left
  exported = record { number = ap number_of (sym told ∙ call.number); refusal = call.refusal; answered = call.answered }

  -- the place of the value
  pub value_place : (held : A) → value_or known held ≡ value_or o held
  value_place held = ap (λ (p : Outcome A). value_or p held) (sym told ∙ call.number)
