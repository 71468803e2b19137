-- What refusal 6 says of the sizes: they add to more than 2^53, or they do not.
use Prim.Native.Nat.{ℕ, ◌^◌, ◌≤◌, ◌<◌}
use native.Mathlib.Omega.{arith}
use mathlib.Core.Path.{◌≡◌}
use mathlib.Core.Bool.{true, false}
use mathlib.Core.List.{List}
use borrow.Author.Tests.{ltb-true, ltb-false}
use Rattle.lists.specs.Sum.{sum}
use Rattle.whole.specs.Total.{total_limit, total_exceeds}

pub accepted : (l : List ℕ) → total_exceeds l ≡ false → sum l ≤ 2 ^ 53
unfolding total_exceeds
accepted l e = omega (arith, ltb-false total_limit (sum l) e)

pub refused : (l : List ℕ) → total_exceeds l ≡ true → 2 ^ 53 < sum l
unfolding total_exceeds
refused l e = omega (arith, ltb-true total_limit (sum l) e)
