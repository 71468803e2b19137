-- A larger whole number up to 2^53 against the same double: what is under the smaller number is under the larger one, and what is over the
-- larger is over the smaller. "At most" follows from "above", whose opposite it is.
use Prim.Native.Nat.{ℕ, ◌+◌, ◌*◌, ◌^◌, ◌≤◌}
use native.Mathlib.Nat.{mul-le-mul_right}
use native.Mathlib.Omega.{arith}
use mathlib.Core.Path.{◌≡◌, refl, sym, ap, ◌∙◌}
use mathlib.Core.Bool.{Bool, true, false, not, false≢true}
use borrow.Author.Tests.{ltb-true, lt-ltb}
use lib.Ieee.{Float, nan, inf, fin, up, down, lt, le, is_nan}
use Rattle.whole.specs.Double.{to_f64}
use Rattle.whole.proofs.AnyDouble.{whole_below, whole_above, whole_at_most, whole_below_lem, whole_above_lem, whole_at_most_lem, at_most_not_above, at_least_not_below}

-- ---- in natural numbers
below_down : (n m : ℕ) → n ≤ m → (x : Float) → whole_below m x ≡ true → whole_below n x ≡ true
unfolding whole_below
below_down n m h nan t = t
below_down n m h (inf s) t = t
below_down n m h (fin false k d) t = lt-ltb (n * down d) (k * up d) (omega (arith, ltb-true (m * down d) (k * up d) t, mul-le-mul_right (down d) h))
below_down n m h (fin true k d) t = t

above_up : (n m : ℕ) → n ≤ m → (x : Float) → whole_above n x ≡ true → whole_above m x ≡ true
unfolding whole_above
above_up n m h nan t = t
above_up n m h (inf s) t = t
above_up n m h (fin false k d) t = lt-ltb (k * up d) (m * down d) (omega (arith, ltb-true (k * up d) (n * down d) t, mul-le-mul_right (down d) h))
above_up n m h (fin true k d) t = lt-ltb 0 (m + k) (omega (arith, ltb-true 0 (n + k) t))

-- where q fails, what implies it fails
flip : (p q : Bool) → (p ≡ true → q ≡ true) → not q ≡ true → not p ≡ true
flip true q f t = absurd (false≢true (ap not (sym (f refl)) ∙ t))
flip false q f t = refl

-- ---- in doubles
module _ (n m : ℕ) (h : n ≤ m) (k : m ≤ 2 ^ 53) where
  small : n ≤ 2 ^ 53
  small = omega arith

  -- what is under n is under m
  pub under_lt : (x : Float) → lt x (to_f64 n) ≡ true → lt x (to_f64 m) ≡ true
  under_lt x t = whole_above_lem m k x ∙ above_up n m h x (sym (whole_above_lem n small x) ∙ t)

  -- what is over m is over n
  pub over_lt : (x : Float) → lt (to_f64 m) x ≡ true → lt (to_f64 n) x ≡ true
  over_lt x t = whole_below_lem n small x ∙ below_down n m h x (sym (whole_below_lem m k x) ∙ t)

  under_number : (x : Float) → is_nan x ≡ false → le x (to_f64 n) ≡ true → le x (to_f64 m) ≡ true
  under_number x p t = at_least_not_below m k x p ∙ flip (lt (to_f64 m) x) (lt (to_f64 n) x) (over_lt x) (sym (at_least_not_below n small x p) ∙ t)

  over_number : (x : Float) → is_nan x ≡ false → le (to_f64 m) x ≡ true → le (to_f64 n) x ≡ true
  over_number x p t = at_most_not_above n small x p ∙ flip (lt x (to_f64 n)) (lt x (to_f64 m)) (under_lt x) (sym (at_most_not_above m k x p) ∙ t)

  pub under_le : (x : Float) → le x (to_f64 n) ≡ true → le x (to_f64 m) ≡ true
  unfolding le is_nan
  under_le nan t = t
  under_le (inf s) t = under_number (inf s) refl t
  under_le (fin s j d) t = under_number (fin s j d) refl t

  pub over_le : (x : Float) → le (to_f64 m) x ≡ true → le (to_f64 n) x ≡ true
  unfolding whole_at_most is_nan
  over_le nan t = whole_at_most_lem n small nan ∙ sym (whole_at_most_lem m k nan) ∙ t
  over_le (inf s) t = over_number (inf s) refl t
  over_le (fin s j d) t = over_number (fin s j d) refl t
