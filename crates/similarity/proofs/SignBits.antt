-- A sign as a bit that chooses. Of two numbers x and y below 2^15, the sign of y - x, shifted down and negated, is 1 where x is above y, else 0.
use Prim.Native.Nat.{ℕ, zero, suc, ◌-◌, ◌*◌, ◌≤◌, ◌<◌}
use mathlib.Core.Path.{◌≡◌, refl, ap}
use native.Mathlib.Decide.{dec_le}
use native.Mathlib.Nat.{div-eq_of_lt, mul-le-mul_right}
use native.Mathlib.Omega.{arith}
use lib.Dec.{T}
use lib.IntN.{ℤ, pos, negsuc, nat_abs, ◌-ℤ◌}
use lib.Signed.{shr_z, non_neg}
use mir.Syntax.{w8, w16}
use mir.Val.{Fits, SFits, to_z, of_z}
use mir.Facts.{to_z-of_z}
use borrow.Author.Tests.{lt-ltb, le-ltb}

-- ---- the steps, each read back from the 16 bits that hold it

abbrev difference : ℕ → ℕ → ℤ
difference x y = to_z w16 y -ℤ to_z w16 x

abbrev shifted : ℕ → ℕ → ℤ
shifted x y = shr_z (to_z w16 (of_z w16 (difference x y))) 32768

abbrev negated : ℕ → ℕ → ℤ
negated x y = pos 0 -ℤ to_z w16 (of_z w16 (shifted x y))

abbrev pub above : ℕ → ℕ → ℕ
above x y = nat_abs (to_z w16 (of_z w16 (negated x y)))

-- ---- what each step is

unsigned_read : (n : ℕ) → n < 32768 → to_z w16 n ≡ pos n
unsigned_read n h = rw (lt-ltb n 32768 h)

minus : (x y : ℕ) → x ≤ y → pos y -ℤ pos x ≡ pos (y - x)
minus zero y h = ap pos (omega arith)
minus (suc x) y h = rw (le-ltb y (suc x) h)

minus_more : (x y : ℕ) → y < x → pos y -ℤ pos x ≡ negsuc (x - suc y)
minus_more zero y h = absurd (omega (arith, h))
minus_more (suc x) y h = rw (lt-ltb y (suc x) h)

module _ (x y : ℕ) where
  difference_up : x ≤ y → y < 32768 → difference x y ≡ pos (y - x)
  difference_up h q = rw (unsigned_read x (omega arith), unsigned_read y q) (minus x y h)

  difference_down : y < x → x < 32768 → difference x y ≡ negsuc (x - suc y)
  difference_down h p = rw (unsigned_read x p, unsigned_read y (omega arith)) (minus_more x y h)

  shifted_up : x ≤ y → y < 32768 → shifted x y ≡ pos 0
  shifted_up h q = rw (difference_up h q, unsigned_read (y - x) (omega arith)) (ap pos (div-eq_of_lt (omega arith)))

  shifted_down : y < x → x < 32768 → shifted x y ≡ negsuc 0
  shifted_down h p =
      let fits : SFits w16 (negsuc (x - suc y)) = record { sfits = omega arith } in
      rw (difference_down h p, to_z-of_z fits) (ap negsuc (div-eq_of_lt (omega arith)))

  negated_up : x ≤ y → y < 32768 → negated x y ≡ pos 0
  negated_up h q = rw (shifted_up h q)

  negated_down : y < x → x < 32768 → negated x y ≡ pos 1
  negated_down h p = rw (shifted_down h p)

-- ---- the bit

-- s is 1 where x is above y, else 0
pub data Above (x y : ℕ) : ℕ → Type 0 where
  more : y < x → Above x y 1
  no_more : x ≤ y → Above x y 0

-- no step wraps, and the last is that bit
pub record Compared (x y : ℕ) : Type 0 where
  pub difference_fits : SFits w16 (difference x y)
  pub negated_fits : SFits w16 (negated x y)
  pub above_fits : T (non_neg (to_z w16 (of_z w16 (negated x y)))) × Fits w8 (above x y)
  pub bit : Above x y (above x y)

pub compared : (x y : ℕ) → x < 32768 → y < 32768 → Compared x y
compared x y p q = go (dec_le x y)
  where
    go : Dec (x ≤ y) → Compared x y
    go (yes h) =
        record {
          difference_fits = rw (difference_up x y h q) (record { sfits = omega arith });
          negated_fits = rw (negated_up x y h q) (record { sfits = omega arith });
          above_fits = rw (negated_up x y h q) (tt, record { fits = omega arith });
          bit = rw (negated_up x y h q) (no_more h);
        }
    go (no h) =
        let d : y < x = omega (arith, h) in
        record {
          difference_fits = rw (difference_down x y d p) (record { sfits = omega arith });
          negated_fits = rw (negated_down x y d p) (record { sfits = omega arith });
          above_fits = rw (negated_down x y d p) (tt, record { fits = omega arith });
          bit = rw (negated_down x y d p) (more d);
        }

-- ---- what a choice by that bit needs

-- a claim by cases of the bit
pub by_bit : {x y s : ℕ} {X : Type 0} → Above x y s → (y < x → s ≡ 1 → X) → (x ≤ y → s ≡ 0 → X) → X
by_bit (more h) f g = f h refl
by_bit (no_more h) f g = g h refl

pub bit_le : {x y s : ℕ} → Above x y s → s ≤ 1
bit_le (more h) = omega arith
bit_le (no_more h) = omega arith

pub chosen_fits : {n s : ℕ} → s ≤ 1 → Fits w8 n → Fits w8 (s * n)
chosen_fits {n} h p = record { fits = omega (arith, mul-le-mul_right n h, p.fits) }
