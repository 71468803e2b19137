-- Tests on numbers: they say the same of two numbers and of both times a factor above zero, and "at most" is "not above".
use Prim.Native.Nat.{ℕ, zero, suc, ◌+◌, ◌*◌, ◌≤◌, ◌<◌}
use native.Mathlib.Nat.{mul-lt-mul_of_pos_right, eq_of_mul-eq-mul_right, lt_of_mul-lt-mul_right, le-mul_of_pos_right}
use native.Mathlib.Omega.{arith}
use mathlib.Core.Path.{◌≡◌, refl, sym, ap, ◌∙◌}
use mathlib.Core.Bool.{Bool, true, false, not, ◌&&◌, ◌||◌}
use borrow.Author.Tests.{ltb-true, ltb-false, leb-true, eqb-true, lt-ltb, le-leb, lt-leb, eq-eqb}
use lib.Dec.{ltb, leb, eqb, eqb-suc-zero}
use Rattle.lists.proofs.Below.{same_truth}

-- ---- both sides times k
pub ltb_scale : (a b k : ℕ) → 0 < k → ltb (a * k) (b * k) ≡ ltb a b
ltb_scale a b k h = same_truth (ltb (a * k) (b * k)) (ltb a b)
    (λ t. lt-ltb a b (lt_of_mul-lt-mul_right k (ltb-true (a * k) (b * k) t)))
    (λ t. lt-ltb (a * k) (b * k) (mul-lt-mul_of_pos_right (ltb-true a b t) h))

pub eqb_scale : (a b k : ℕ) → 0 < k → eqb (a * k) (b * k) ≡ eqb a b
eqb_scale a b k h = same_truth (eqb (a * k) (b * k)) (eqb a b)
    (λ t. eq-eqb a b (eq_of_mul-eq-mul_right k h a b (eqb-true (a * k) (b * k) t)))
    (λ t. eq-eqb (a * k) (b * k) (ap (λ x. x * k) (eqb-true a b t)))

-- ---- "at most"
pub leb_not_ltb : (a b : ℕ) → leb a b ≡ not (ltb b a)
leb_not_ltb a b = go (ltb b a) (ltb-true b a) (ltb-false b a)
  where
    go : (t : Bool) → (t ≡ true → b < a) → (t ≡ false → a ≤ b) → leb a b ≡ not t
    go true f g = lt-leb a b (f refl)
    go false f g = le-leb a b (g refl)

pub ltb_or_eqb : (a b : ℕ) → (ltb a b || eqb a b) ≡ leb a b
ltb_or_eqb a b = go (ltb a b) (ltb-true a b) (ltb-false a b)
  where
    go : (t : Bool) → (t ≡ true → a < b) → (t ≡ false → b ≤ a) → (t || eqb a b) ≡ leb a b
    go true f g = let h : a < b = f refl in sym (le-leb a b (omega arith))
    go false f g = same_truth (eqb a b) (leb a b)
        (λ t. let h : a ≡ b = eqb-true a b t in le-leb a b (omega arith))
        (λ t. let h : a ≤ b = leb-true a b t in let k : b ≤ a = g refl in eq-eqb a b (omega arith))

-- ---- zero
pub eqb_comm : (a b : ℕ) → eqb a b ≡ eqb b a
eqb_comm a b = same_truth (eqb a b) (eqb b a) (λ t. eq-eqb b a (sym (eqb-true a b t))) (λ t. eq-eqb a b (sym (eqb-true b a t)))

-- a sum is not above zero where both numbers are zero
pub zero_sum : (a b : ℕ) → not (ltb 0 (a + b)) ≡ (eqb a 0 && eqb b 0)
zero_sum zero zero = refl
zero_sum zero (suc b) = ap not (lt-ltb 0 (zero + suc b) (omega arith)) ∙ sym (eqb-suc-zero b)
zero_sum (suc a) b = ap not (lt-ltb 0 (suc a + b) (omega arith)) ∙ ap (λ t. t && eqb b 0) (sym (eqb-suc-zero a))

-- a sum is above zero whatever its numbers are multiplied by
pub positive_sum : (a b j k : ℕ) → 0 < j → 0 < k → ltb 0 (a * j + b * k) ≡ ltb 0 (b + a)
positive_sum a b j k p q = same_truth (ltb 0 (a * j + b * k)) (ltb 0 (b + a))
    (λ t. lt-ltb 0 (b + a) (some a b (ltb-true 0 (a * j + b * k) t)))
    (λ t. let h : 0 < b + a = ltb-true 0 (b + a) t in lt-ltb 0 (a * j + b * k) (omega (arith, le-mul_of_pos_right a p, le-mul_of_pos_right b q)))
  where
    some : (x y : ℕ) → 0 < x * j + y * k → 0 < y + x
    some zero zero h = omega arith
    some zero (suc y) h = omega arith
    some (suc x) y h = omega arith
