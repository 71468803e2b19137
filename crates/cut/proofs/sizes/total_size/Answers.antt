-- `cut::sizes::total_size` meets its contract. The loop's invariant: the total is that of the first sizes.
use Prim.Native.Nat.{◌<◌}
use mathlib.Core.Path.{sym, ap, ap₂, ◌∙◌}
use native.Mathlib.Omega.{arith}
use lib.Ieee.{binary64, add}
use lib.ListN.{length}
use Rattle.whole.specs.Double.{to_f64}
use Rattle.cut.specs.Order.{sizes_in}
use Rattle.cut.proofs.InOrder.{size_in, size_held, length_sizes}
use Rattle.cut.proofs.Totals.{no_size, size_more}
use Rattle.cut.proofs.sizes.total_size.Goals as goal

pub loop-module-init : goal.loop-module-init
loop-module-init c = let a = c.args in no_size (sizes_in a.sizes.now a.order.now)

pub int_to_float-total : goal.int_to_float-total
int_to_float-total c = size_held c.args.sizes.now c.args.order.now c.loop-module.module-index (omega arith) c.requires

pub loop-module-preserved : goal.loop-module-preserved
loop-module-preserved c =
    let a = c.args in
    let l = sizes_in a.sizes.now a.order.now in
    let i = c.loop-module.module-index in
    let inside : i < length a.order.now = omega arith in
    let h : i < length l = omega (arith, length_sizes a.sizes.now a.order.now) in
    ap₂ (add binary64) c.loop-module.invariant (sym (ap to_f64 (size_in a.sizes.now a.order.now i inside))) ∙ size_more l i h
