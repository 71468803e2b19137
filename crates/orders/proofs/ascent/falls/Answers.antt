-- `orders::ascent::falls` meets its contract. The loop's invariant: what is passed falls, or what is left does, where the list does.
use mathlib.Core.Bool.{or_assoc, or-false}
use mathlib.Core.Path.{◌∙◌}
use native.Mathlib.Omega.{arith}
use Rattle.std.specs.Ordering.{partial_lt}
use Rattle.std.specs.Slice.Iter.{windows_rest}
use Rattle.orders.proofs.BlockOrder.{pair_and_rest, few_fall}
use Rattle.orders.specs.Ascending.{falls_by}
use Rattle.orders.proofs.ascent.falls.Goals as goal

pub loop-pair-preserved : goal.loop-pair-preserved
loop-pair-preserved g c =
    let lower = partial_lt g.T.PartialOrd.partial_cmp in
    let inv = c.loop-pair.invariant in
    let left = windows_rest c.loop-pair.pair-iterator in
    let step = c.in-Some.ensures.steps in
    let two = step.0 ∙ inv.0 in
    let e = pair_and_rest lower left c.in-Some.pair.now _ _ (omega arith) (rw inv.0 at step.1.1) c.index-pair-0.is c.index-pair-1.is in
    let f = or_assoc c.loop-pair.falls c.lt-falls.result (falls_by lower (windows_rest c.next.new.self)) in
    (two, cc)

pub returns : goal.returns
returns g c =
    let lower = partial_lt g.T.PartialOrd.partial_cmp in
    let left = windows_rest c.loop-pair.pair-iterator in
    let none = few_fall lower left (rw c.loop-pair.invariant.0 at c.in-None.ensures.steps.1.0) in
    let f = or-false c.loop-pair.falls in
    cc
