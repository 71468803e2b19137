-- What is left of an item goes one of three ways: there is nothing, it is below the minimum, or it is emitted.
use Prim.Native.Nat.{ℕ, ◌≤◌}
use mathlib.Core.Bool.{true, false}
use mathlib.Core.List.{List, [], ◌∷◌}
use mathlib.Core.Path.{◌≡◌, refl, sym, ap, ◌∙◌}
use native.Mathlib.Omega.{arith}
use lib.Ieee.{Float, lt}
use lib.ListN.{length}
use Rattle.whole.specs.Double.{sum_f64}
use Rattle.cut.specs.Order.{sizes_in}
use Rattle.emitting.specs.Emitted.{Work, Emission, with_chunks}
use Rattle.emitting.specs.declared.emit.Head.{Head}
use Rattle.pieces.specs.Chunks.{Converted}
use Rattle.items.specs.Turn.{Tables, emitted_within, emitted_from}
use Rattle.items.specs.declared.convert.Limits.{Limits}

pub none_converted : (bits : List ℕ) (number at : ℕ) (w : Work) {es : List Emission} → es ≡ [] → Converted es bits number at 0 w w
unfolding with_chunks
none_converted bits number at w e = record { made = sym (ap length e); areas = sym (ap (λ (es : List Emission). with_chunks bits number at es w) e) }

module _ (t : Tables) (head : Head) (l : Limits) where
  pub nothing_left : (modules : List ℕ) → length modules ≡ 0 → emitted_from t head l modules ≡ []
  unfolding emitted_from
  nothing_left [] e = refl
  nothing_left (m ∷ modules) e = absurd (omega arith)

  pub below_minimum : (modules : List ℕ) {total : Float} → 1 ≤ length modules → total ≡ sum_f64 (sizes_in t.sizes modules) → lt total l.minimum ≡ true
      → emitted_from t head l modules ≡ []
  unfolding emitted_from
  below_minimum [] some e q = absurd (omega arith)
  below_minimum (m ∷ modules) some e q = rw (sym (ap (λ (x : Float). lt x l.minimum) e) ∙ q)

  pub from_minimum : (modules : List ℕ) {total : Float} → 1 ≤ length modules → total ≡ sum_f64 (sizes_in t.sizes modules) → lt total l.minimum ≡ false
      → emitted_from t head l modules ≡ emitted_within l.maximum t head l.minimum modules
  unfolding emitted_from
  from_minimum [] some e q = absurd (omega arith)
  from_minimum (m ∷ modules) some e q = rw (sym (ap (λ (x : Float). lt x l.minimum) e) ∙ q)
