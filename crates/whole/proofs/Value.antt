-- A whole number up to 2^53 as a double is that very number: nothing is rounded.
use Prim.Native.Nat.{ℕ, ◌*◌, ◌^◌, ◌≤◌}
use native.Mathlib.Nat.{mul-one, mul_assoc, mul_comm}
use mathlib.Core.Path.{◌≡◌, refl, sym, ap, ◌∙◌}
use mathlib.Core.Bool.{true, false, true≢false}
use lib.IntN.{ℤ}
use lib.Ieee.{Float, nan, inf, fin, binary64, up, down, of_int, is_nan}
use lib.Ieee.Exact.{HasValue}
use lib.Ieee.Back.{round_whole}
use Rattle.whole.specs.Double.{to_f64}

-- the double x is the whole number n: it is digits * 2 ^ exponent, which is up exponent / down exponent
pub record IsWhole (x : Float) (n : ℕ) : Type 0 where
  pub digits : ℕ
  pub exponent : ℤ
  pub is : x ≡ fin false digits exponent
  pub value : digits * up exponent ≡ n * down exponent

of_value : (x : Float) (n : ℕ) → HasValue x false n 1 → IsWhole x n
of_value nan n v = absurd v
of_value (inf s) n v = absurd v
of_value (fin true m e) n v = absurd (true≢false v.0)
of_value (fin false m e) n v = record { digits = m; exponent = e; is = refl; value = sym (mul-one (m * up e)) ∙ v.1 }

pub whole_double : (n : ℕ) → n ≤ 2 ^ 53 → IsWhole (to_f64 n) n
unfolding of_int
whole_double n h = of_value (to_f64 n) n (round_whole binary64 false n h)

pub not_nan : (n : ℕ) → n ≤ 2 ^ 53 → is_nan (to_f64 n) ≡ false
unfolding is_nan
not_nan n h = ap is_nan (whole_double n h).is

-- ---- the two sides of an operation on doubles, over one denominator
pub left : (m : ℕ) (e : ℤ) (a : ℕ) (d : ℤ) → m * up e ≡ a * down e → m * up e * down d ≡ a * (down e * down d)
left m e a d h = ap (λ x. x * down d) h ∙ mul_assoc a (down e) (down d)

pub right : (n : ℕ) (d : ℤ) (b : ℕ) (e : ℤ) → n * up d ≡ b * down d → n * up d * down e ≡ b * (down e * down d)
right n d b e h = left n d b e h ∙ ap (λ x. b * x) (mul_comm (down d) (down e))
