-- `oversized::neighbours::fill_sums` meets its contract. The loop's invariant: the entries below i are filled, and the sum is that of the first i sizes.
use Prim.Native.Nat.{◌<◌}
use mathlib.Core.Path.{ap₂, ◌∙◌}
use native.Mathlib.Omega.{arith}
use lib.Ieee.{nan, binary64, add}
use lib.ListN.{length, take, length-set}
use Rattle.whole.specs.Double.{sum_f64}
use Rattle.cut.specs.Order.{sizes_in}
use Rattle.cut.proofs.InOrder.{length_sizes}
use Rattle.cut.proofs.Totals.{no_size, size_more}
use Rattle.oversized.proofs.Filled.{one_filled}
use Rattle.oversized.proofs.neighbours.fill_sums.Goals as goal

pub loop-i-init : goal.loop-i-init
loop-i-init c =
    (omega arith, c.requires.1, λ k from h. absurd (omega arith), no_size (sizes_in c.args.sizes.now c.args.order.now))

pub loop-i-preserved : goal.loop-i-preserved
loop-i-preserved c =
    let l = c.loop-i in
    let a = c.args in
    let all = sizes_in a.sizes.now a.order.now in
    let h : l.i < length all = omega (arith, length_sizes a.sizes.now a.order.now) in (
      omega arith,
      simp length-set l.invariant.1,
      one_filled nan (λ k. sum_f64 (take k all)) 0 l.sums l.i l.sum (omega arith) l.invariant.3 l.invariant.2,
      ap₂ (add binary64) l.invariant.3 c.size_at-sum.ensures ∙ size_more all l.i h,
    )
