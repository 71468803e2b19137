-- `cut::given::total_of` meets its contract. The loop's invariant: the total is that of the first sizes.
use Prim.Native.Nat.{◌<◌}
use mathlib.Core.Path.{ap, ◌∙◌}
use native.Mathlib.Omega.{arith}
use lib.Ieee.{Float, binary64, add}
use lib.ListN.{length, get_or}
use Rattle.whole.specs.Double.{to_f64}
use Rattle.cut.proofs.InOrder.{held}
use Rattle.cut.proofs.Totals.{no_size, size_more}
use Rattle.cut.proofs.given.total_of.Goals as goal

pub loop-size-init : goal.loop-size-init
loop-size-init c = no_size c.args.sizes.now

pub int_to_float-total : goal.int_to_float-total
int_to_float-total c = held c.args.sizes.now c.loop-size.size-index (omega arith) c.requires

pub loop-size-preserved : goal.loop-size-preserved
loop-size-preserved c =
    let l = c.args.sizes.now in
    let i = c.loop-size.size-index in
    let h : i < length l = omega arith in
    ap (λ (x : Float). add binary64 x (to_f64 (get_or l i 0))) c.loop-size.invariant ∙ size_more l i h
