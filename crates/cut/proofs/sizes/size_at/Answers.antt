-- `cut::sizes::size_at` meets its contract: the module has a size, which a double holds.
use Prim.Native.Nat.{◌<◌}
use mathlib.Core.Path.{sym, ap}
use borrow.Author.Rules.{scaled_Fits}
use native.Mathlib.Omega.{arith}
use lib.ListN.{length, get_or}
use Rattle.whole.specs.Double.{to_f64}
use Rattle.cut.proofs.InOrder.{size_in, size_held}
use Rattle.cut.proofs.sizes.size_at.Goals as goal

pub overflow_cast-result : goal.overflow_cast-result
overflow_cast-result c = omega (arith, c.type_inv.order c.args.i)

pub offset_bounds-sizes-order : goal.offset_bounds-sizes-order
offset_bounds-sizes-order c =
    let a = c.args in
    let h : get_or a.order.now a.i 0 < length a.sizes.now = c.requires.sized.has_size a.i c.requires.i_in_bounds in
    scaled_Fits _ _ 8 h c.well_formed.0.1

pub bounds-sizes-order : goal.bounds-sizes-order
bounds-sizes-order c =
    c.requires.sized.has_size c.args.i c.requires.i_in_bounds

pub int_to_float-result : goal.int_to_float-result
int_to_float-result c =
    size_held c.args.sizes.now c.args.order.now c.args.i c.requires.i_in_bounds c.requires.sized

pub returns : goal.returns
returns c =
    sym (ap to_f64 (size_in c.args.sizes.now c.args.order.now c.args.i c.requires.i_in_bounds))
