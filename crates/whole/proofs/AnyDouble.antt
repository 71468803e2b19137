-- A whole number up to 2^53 against any double, infinities, -0 and NaN included: the comparison is one of natural numbers, with no rounding.
-- A finite double is m * 2 ^ e, and 2 ^ e is up e / down e, so both sides are taken times down e.
use Prim.Native.Nat.{ℕ, ◌+◌, ◌*◌, ◌^◌, ◌≤◌}
use native.Mathlib.Nat.{mul_assoc, mul_right_comm, mul-pos}
use mathlib.Core.Path.{◌≡◌, refl, sym, ap, ap₂, ◌∙◌}
use mathlib.Core.Bool.{Bool, true, false, not, ◌&&◌, ◌||◌, cond, true≢false}
use lib.IntN.{ℤ}
use lib.Dec.{ltb, leb, eqb}
use lib.Ieee.{Float, nan, inf, fin, up, down, lt, le, is_nan}
use lib.Ieee.Fits.{up_pos, down_pos}
use Rattle.whole.specs.Double.{to_f64}
use Rattle.whole.proofs.Tests.{ltb_scale, leb_not_ltb, zero_sum, positive_sum}
use Rattle.whole.proofs.Value.{whole_double, not_nan}
use Rattle.whole.proofs.Order.{le_not_lt}

-- n < x
unfoldable pub whole_below : ℕ → Float → Bool
whole_below n nan = false
whole_below n (inf s) = not s
whole_below n (fin s m e) = not s && ltb (n * down e) (m * up e)

-- n > x
unfoldable pub whole_above : ℕ → Float → Bool
whole_above n nan = false
whole_above n (inf s) = s
whole_above n (fin s m e) = cond s (ltb 0 (n + m)) (ltb (m * up e) (n * down e))

-- n ≤ x
unfoldable pub whole_at_most : ℕ → Float → Bool
whole_at_most n nan = false
whole_at_most n (inf s) = not s
whole_at_most n (fin s m e) = cond s (eqb n 0 && eqb m 0) (leb (n * down e) (m * up e))

-- n ≥ x
unfoldable pub whole_at_least : ℕ → Float → Bool
whole_at_least n nan = false
whole_at_least n (inf s) = s
whole_at_least n (fin s m e) = s || leb (m * up e) (n * down e)

-- ---- the forms among themselves
not_above : (n : ℕ) (x : Float) → is_nan x ≡ false → not (whole_above n x) ≡ whole_at_most n x
unfolding whole_above whole_at_most is_nan
not_above n nan p = absurd (true≢false p)
not_above n (inf s) p = refl
not_above n (fin false m e) p = sym (leb_not_ltb (n * down e) (m * up e))
not_above n (fin true m e) p = zero_sum n m

not_below : (n : ℕ) (x : Float) → is_nan x ≡ false → not (whole_below n x) ≡ whole_at_least n x
unfolding whole_below whole_at_least is_nan
not_below n nan p = absurd (true≢false p)
not_below n (inf false) p = refl
not_below n (inf true) p = refl
not_below n (fin false m e) p = sym (leb_not_ltb (m * up e) (n * down e))
not_below n (fin true m e) p = refl

-- ---- a double that is the whole number n
module _ (m : ℕ) (e : ℤ) (n : ℕ) (v : m * up e ≡ n * down e) where
  cross : (d : ℤ) → m * up e * down d ≡ n * down d * down e
  cross d = ap (λ a. a * down d) v ∙ mul_right_comm n (down e) (down d)

  below_fin : (x : Float) → lt (fin false m e) x ≡ whole_below n x
  unfolding lt whole_below
  below_fin nan = refl
  below_fin (inf s) = refl
  below_fin (fin false k d) = ap (λ a. ltb a (k * up d * down e)) (cross d) ∙ ltb_scale (n * down d) (k * up d) (down e) (down_pos e)
  below_fin (fin true k d) = refl

  above_fin : (x : Float) → lt x (fin false m e) ≡ whole_above n x
  unfolding lt whole_above
  above_fin nan = refl
  above_fin (inf s) = refl
  above_fin (fin false k d) = ap (λ a. ltb (k * up d * down e) a) (cross d) ∙ ltb_scale (k * up d) (n * down d) (down e) (down_pos e)
  above_fin (fin true k d) =
      ap₂ (λ a b. ltb 0 (a + b)) (mul_assoc k (up d) (down e)) (cross d ∙ mul_assoc n (down d) (down e))
      ∙ positive_sum k n (up d * down e) (down d * down e) (mul-pos (up_pos d) (down_pos e)) (mul-pos (down_pos d) (down_pos e))

-- ---- the four comparisons
module _ (n : ℕ) (h : n ≤ 2 ^ 53) where
  pub whole_below_lem : (x : Float) → lt (to_f64 n) x ≡ whole_below n x
  whole_below_lem x = let w = whole_double n h in ap (λ y. lt y x) w.is ∙ below_fin w.digits w.exponent n w.value x

  pub whole_above_lem : (x : Float) → lt x (to_f64 n) ≡ whole_above n x
  whole_above_lem x = let w = whole_double n h in ap (lt x) w.is ∙ above_fin w.digits w.exponent n w.value x

  -- "at most" is "not above", but for NaN
  pub at_most_not_above : (x : Float) → is_nan x ≡ false → le (to_f64 n) x ≡ not (lt x (to_f64 n))
  at_most_not_above x p = le_not_lt (to_f64 n) x (not_nan n h) p

  pub at_least_not_below : (x : Float) → is_nan x ≡ false → le x (to_f64 n) ≡ not (lt (to_f64 n) x)
  at_least_not_below x p = le_not_lt x (to_f64 n) p (not_nan n h)

  at_most_number : (x : Float) → is_nan x ≡ false → le (to_f64 n) x ≡ whole_at_most n x
  at_most_number x p = at_most_not_above x p ∙ ap not (whole_above_lem x) ∙ not_above n x p

  at_least_number : (x : Float) → is_nan x ≡ false → le x (to_f64 n) ≡ whole_at_least n x
  at_least_number x p = at_least_not_below x p ∙ ap not (whole_below_lem x) ∙ not_below n x p

  pub whole_at_most_lem : (x : Float) → le (to_f64 n) x ≡ whole_at_most n x
  unfolding le whole_at_most is_nan
  whole_at_most_lem nan = ap (λ y. le y nan) (whole_double n h).is
  whole_at_most_lem (inf s) = at_most_number (inf s) refl
  whole_at_most_lem (fin s m e) = at_most_number (fin s m e) refl

  pub whole_at_least_lem : (x : Float) → le x (to_f64 n) ≡ whole_at_least n x
  unfolding le whole_at_least is_nan
  whole_at_least_lem nan = refl
  whole_at_least_lem (inf s) = at_least_number (inf s) refl
  whole_at_least_lem (fin s m e) = at_least_number (fin s m e) refl
