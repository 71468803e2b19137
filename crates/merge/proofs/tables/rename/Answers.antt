-- `merge::tables::rename` meets its contract: one number more is renamed a turn, the rest are as they were.
use mathlib.Core.Path.{sym, ap, ◌∙◌}
use native.Mathlib.Omega.{arith}
use Rattle.lists.proofs.Front.{one_written, unread}
use Rattle.lists.proofs.Map.{get_or_map_below}
use Rattle.merge.specs.Engine.{renamed}
use Rattle.merge.proofs.tables.rename.Goals as goal

pub loop-number-preserved : goal.loop-number-preserved
loop-number-preserved c =
    let l = c.loop-number in
    let a = c.args in
    let f = renamed a.from a.to in
    one_written 0 _ _ _ _ l.invariant (omega arith) _
    (c.renamed.ensures ∙ ap f (unread 0 _ _ _ _ l.invariant) ∙ sym (get_or_map_below f a.numbers.now l.number-index 0 0 (omega arith)))
