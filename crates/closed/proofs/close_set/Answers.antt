-- `closed::close_set` meets its contract: each way through it is one of the two ways of the definition.
use mathlib.Core.Path.{sym, ◌∙◌}
use Rattle.closed.specs.Closed.{closed_after}
use Rattle.closed.proofs.close_set.Goals as goal

pub returns-then-not-closing : goal.returns-then-not-closing
unfolding closed_after
returns-then-not-closing c =
    let a = c.args in rw c.if-not-closing.true

pub returns-then-some_left : goal.returns-then-some_left
unfolding closed_after
returns-then-some_left c =
    let a = c.args in
    rw (c.if-not-closing.false, sym c.some_left.ensures ∙ c.if-some_left.true)

pub returns : goal.returns
unfolding closed_after
returns c =
    let none = sym c.some_left.ensures ∙ c.if-some_left.false in
    rw (c.if-not-closing.false, none) c.store_bytes.ensures
