-- Sizes as doubles: the constant zero, a size that a double holds, and the whole number that a double is read back as.
use Prim.Native.Nat.{ℕ, suc, ◌-◌, ◌^◌, ◌≤◌}
use mathlib.Core.Bool.{Bool, true, false}
use mathlib.Core.Path.{◌≡◌, refl, sym, ap, subst}
use native.Mathlib.Omega.{arith}
use borrow.Author.Tests.{lt-ltb}
use lib.Dec.{T, le→leb}
use lib.IntN.{pos, negsuc}
use lib.Ieee.{binary64, of_bits, of_int, in_float, in_unsigned, to_unsigned}
use lib.Ieee.Back.{unsigned_back}
use mir.Syntax.{w64}
use mir.Val.{sel, to_z}
use Rattle.whole.specs.Double.{to_f64}

-- the constant 0.0
pub zero_double : of_bits binary64 0 ≡ to_f64 0
unfolding of_bits of_int
zero_double = refl

pub size_held : (n : ℕ) → n ≤ 2 ^ 53 → T (in_float binary64 (pos n))
unfolding in_float
size_held n h = le→leb n (2 ^ 53) h

-- read as an i64 it is the same number
pub as_signed : (n : ℕ) → n ≤ 2 ^ 53 → to_z w64 n ≡ pos n
as_signed n h = ap (λ b. sel b (pos n) (negsuc (2 ^ 64 - suc n))) (lt-ltb n (2 ^ 63) (omega arith))

pub signed_held : (n : ℕ) → n ≤ 2 ^ 53 → T (in_float binary64 (to_z w64 n))
signed_held n h = subst (λ z. T (in_float binary64 z)) (sym (as_signed n h)) (size_held n h)

back : (n : ℕ) → n ≤ 2 ^ 53 → T (in_unsigned binary64 64 (to_f64 n)) × (to_unsigned 64 (to_f64 n) ≡ n)
back n h = unsigned_back binary64 64 n (size_held n h) (omega arith)

passes : (b : Bool) → T b → b ≡ true
passes true h = refl
passes false h = absurd h

pub is_whole : (n : ℕ) → n ≤ 2 ^ 53 → in_unsigned binary64 64 (to_f64 n) ≡ true
is_whole n h = passes (in_unsigned binary64 64 (to_f64 n)) (back n h).0

pub reads_back : (n : ℕ) → n ≤ 2 ^ 53 → to_unsigned 64 (to_f64 n) ≡ n
reads_back n h = (back n h).1
