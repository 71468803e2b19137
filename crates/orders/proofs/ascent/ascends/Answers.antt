-- `orders::ascent::ascends` meets its contract. The loop's invariant: the list falls where what is left of it does.
use mathlib.Core.Bool.{true, not}
use mathlib.Core.Path.{◌≡◌, sym, ap, ◌∙◌}
use borrow.Author.Rules.{part_to_end}
use Rattle.std.specs.Ordering.{partial_lt}
use Rattle.orders.specs.Ascending.{falls_by}
use Rattle.orders.proofs.BlockOrder.{block_and_rest}
use Rattle.orders.proofs.ascent.ascends.Goals as goal

pub returns-then-falls : goal.returns-then-falls
returns-then-falls g c =
    let lower = partial_lt g.T.PartialOrd.partial_cmp in
    let e = block_and_rest lower 16 c.loop-rest.rest.now in
    let here = sym c.falls.ensures ∙ c.if-falls.true in
    let whole : falls_by lower c.args.a.now ≡ true = c.loop-rest.invariant ∙ e ∙ rw here in
    sym (ap not whole)

pub loop-rest-preserved : goal.loop-rest-preserved
loop-rest-preserved g c =
    let lower = partial_lt g.T.PartialOrd.partial_cmp in
    let e = block_and_rest lower 16 c.loop-rest.rest.now in
    let here = sym c.falls.ensures ∙ c.if-falls.false in
    rw part_to_end (c.loop-rest.invariant ∙ e ∙ rw here)
