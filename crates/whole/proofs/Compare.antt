-- Two whole numbers up to 2^53 compare as doubles as they do as numbers.
use Prim.Native.Nat.{ℕ, ◌*◌, ◌^◌, ◌≤◌}
use native.Mathlib.Nat.{mul-pos}
use mathlib.Core.Path.{◌≡◌, sym, ap, ap₂, ◌∙◌}
use mathlib.Core.Bool.{false, not, and-true}
use borrow.Author.Tests.{eqb-true, eq-eqb}
use lib.IntN.{ℤ}
use lib.Dec.{ltb, leb, eqb}
use lib.Ieee.{fin, up, down, lt, eq, le, ne}
use lib.Ieee.Fits.{down_pos}
use Rattle.whole.specs.Double.{to_f64}
use Rattle.whole.proofs.Tests.{ltb_scale, eqb_scale, leb_not_ltb}
use Rattle.whole.proofs.Value.{whole_double, not_nan, left, right}
use Rattle.whole.proofs.Order.{le_not_lt}

-- a and b, as the doubles m * 2 ^ e and n * 2 ^ d
module _ (m : ℕ) (e : ℤ) (a : ℕ) (h : m * up e ≡ a * down e) (n : ℕ) (d : ℤ) (b : ℕ) (k : n * up d ≡ b * down d) where
  lt_fin : lt (fin false m e) (fin false n d) ≡ ltb a b
  unfolding lt
  lt_fin = ap₂ ltb (left m e a d h) (right n d b e k) ∙ ltb_scale a b (down e * down d) (mul-pos (down_pos e) (down_pos d))

  eq_fin : eq (fin false m e) (fin false n d) ≡ eqb a b
  unfolding eq
  eq_fin =
      and-true (eqb (m * up e * down d) (n * up d * down e))
      ∙ ap₂ eqb (left m e a d h) (right n d b e k)
      ∙ eqb_scale a b (down e * down d) (mul-pos (down_pos e) (down_pos d))

module _ (a b : ℕ) (h : a ≤ 2 ^ 53) (k : b ≤ 2 ^ 53) where
  pub lt_exact : lt (to_f64 a) (to_f64 b) ≡ ltb a b
  lt_exact =
      let x = whole_double a h in
      let y = whole_double b k in
      ap₂ lt x.is y.is ∙ lt_fin x.digits x.exponent a x.value y.digits y.exponent b y.value

  pub eq_exact : eq (to_f64 a) (to_f64 b) ≡ eqb a b
  eq_exact =
      let x = whole_double a h in
      let y = whole_double b k in
      ap₂ eq x.is y.is ∙ eq_fin x.digits x.exponent a x.value y.digits y.exponent b y.value

  pub ne_exact : ne (to_f64 a) (to_f64 b) ≡ not (eqb a b)
  unfolding ne
  ne_exact = ap not eq_exact

pub le_exact : (a b : ℕ) → a ≤ 2 ^ 53 → b ≤ 2 ^ 53 → le (to_f64 a) (to_f64 b) ≡ leb a b
le_exact a b h k = le_not_lt (to_f64 a) (to_f64 b) (not_nan a h) (not_nan b k) ∙ ap not (lt_exact b a k h) ∙ sym (leb_not_ltb a b)

-- different whole numbers are different doubles
pub injective : (a b : ℕ) → a ≤ 2 ^ 53 → b ≤ 2 ^ 53 → to_f64 a ≡ to_f64 b → a ≡ b
injective a b h k e = eqb-true a b (sym (eq_exact a b h k) ∙ ap (λ x. eq (to_f64 a) x) (sym e) ∙ eq_exact a a h h ∙ eq-eqb a a (λ i. a))
