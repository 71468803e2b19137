-- `oversized::neighbours::fill_sums` meets its contract. The loop's invariant: the entries below i are filled, and the sum is that of the first i sizes.
use Prim.Native.Nat.{◌≤◌}
use mathlib.Core.Path.{◌≡◌}
use lib.Ieee.{nan}
use lib.ListN.{length, take}
use Rattle.whole.specs.Double.{sum_f64}
use Rattle.cut.specs.Order.{sizes_in}
use Rattle.oversized.proofs.Filled.{Filled}
use Rattle.oversized.proofs.neighbours.fill_sums.Given as goal

abbrev pub invariant-loop-i : goal.invariant-loop-i
invariant-loop-i l =
    (l.i ≤ length l.order)
    × (length l.sums ≡ length l.order)
    × Filled nan (λ k. sum_f64 (take k (sizes_in l.sizes l.order))) 0 l.sums l.i
    × (l.sum ≡ sum_f64 (take l.i (sizes_in l.sizes l.order)))
