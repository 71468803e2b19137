-- What holds of some of the records from 1 to r, or of all of them, where a loop has come one record further.
use Rattle.std.proofs.Common.{ℕ, zero, suc, ◌+◌, ◌-◌, ◌≤◌, ◌≡◌, arith}
use mathlib.Core.Bool.{Bool, ◌&&◌, ◌||◌}
use Rattle.lists.specs.Below.{any_below, all_below}
use Rattle.lists.proofs.Below.{any_last, all_last}

pub any_next : (p : ℕ → Bool) (r : ℕ) → 1 ≤ r → (any_below (λ k. p (suc k)) (r - 1) || p r) ≡ any_below (λ k. p (suc k)) (r + 1 - 1)
any_next p zero h = absurd (omega arith)
any_next p (suc k) h =
    let e : suc k - 1 ≡ k = omega arith in
    let f : suc k + 1 - 1 ≡ k + 1 = omega arith in
    rw (e, f) (any_last (λ j. p (suc j)) k)

pub all_next : (p : ℕ → Bool) (r : ℕ) → 1 ≤ r → (all_below (λ k. p (suc k)) (r - 1) && p r) ≡ all_below (λ k. p (suc k)) (r + 1 - 1)
all_next p zero h = absurd (omega arith)
all_next p (suc k) h =
    let e : suc k - 1 ≡ k = omega arith in
    let f : suc k + 1 - 1 ≡ k + 1 = omega arith in
    rw (e, f) (all_last (λ j. p (suc j)) k)
