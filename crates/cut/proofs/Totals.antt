-- Running totals as doubles: no size adds to zero, and the total of the first sizes grows by one size at a time.
use Prim.Native.Nat.{ℕ, ◌+◌, ◌-◌, ◌≤◌, ◌<◌}
use mathlib.Core.List.{List}
use mathlib.Core.Path.{◌≡◌, refl, sym, ap, ◌∙◌}
use native.Mathlib.Numerals.{add-one}
use native.Mathlib.Omega.{arith}
use lib.Ieee.{binary64, of_bits, of_int, add}
use lib.ListN.{length, get_or, take}
use Rattle.whole.specs.Double.{to_f64, sum_f64}
use Rattle.whole.proofs.Exact.{sum_f64_take_suc}

pub no_size : (l : List ℕ) → of_bits binary64 0 ≡ sum_f64 (take 0 l)
unfolding of_bits of_int sum_f64
no_size l = refl

pub size_more : (l : List ℕ) (i : ℕ) → i < length l → add binary64 (sum_f64 (take i l)) (to_f64 (get_or l i 0)) ≡ sum_f64 (take (i + 1) l)
size_more l i h = sym (sum_f64_take_suc l i h) ∙ ap (λ (n : ℕ). sum_f64 (take n l)) (sym (add-one i))

-- the same, counted from 1
pub size_next : (l : List ℕ) (i : ℕ) → 1 ≤ i → i - 1 < length l → add binary64 (sum_f64 (take (i - 1) l)) (to_f64 (get_or l (i - 1) 0)) ≡ sum_f64 (take i l)
size_next l i from h = let back : i - 1 + 1 ≡ i = omega arith in size_more l (i - 1) h ∙ ap (λ (n : ℕ). sum_f64 (take n l)) back
