-- `lists::fill::fill_range` meets its contract: one number more a turn.
use mathlib.Core.Path.{sym, ◌∙◌}
use native.Mathlib.Nat.{zero-add}
use native.Mathlib.Omega.{arith}
use lib.ListN.{length}
use Rattle.lists.proofs.Range.{length_range, get_or_range}
use Rattle.lists.proofs.Front.{none_copied, one_written}
use Rattle.lists.proofs.fill.fill_range.Goals as goal

pub loop-i-init : goal.loop-i-init
loop-i-init c = none_copied _ _ (length_range 0 (length c.args.area.now))

pub loop-i-preserved : goal.loop-i-preserved
loop-i-preserved c =
    let l = c.loop-i in
    let n = length c.args.area.now in
    one_written 0 _ _ _ _ l.invariant (omega arith) l.i (sym (get_or_range 0 n l.i 0 (omega arith) ∙ zero-add l.i))
