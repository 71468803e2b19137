-- `closed::build_left` meets its contract: each way through it is one of the two ways of the definition.
use Rattle.closed.proofs.ClosedSets.{live_on, live_off}
use Rattle.closed.proofs.build_left.Goals as goal

pub build_set-requires : goal.build_set-requires
build_set-requires c =
    rw (live_on c.args.flags.now c.args.closed.now c.if-closing.true) at c.requires

pub returns-then-closing : goal.returns-then-closing
returns-then-closing c =
    rw (live_on c.args.flags.now c.args.closed.now c.if-closing.true)
    c.build_set.ensures

pub build_set-requires-2 : goal.build_set-requires-2
build_set-requires-2 c =
    rw (live_off c.args.flags.now c.args.closed.now c.if-closing.false) at c.requires

pub returns : goal.returns
returns c =
    rw (live_off c.args.flags.now c.args.closed.now c.if-closing.false)
    c.build_set-2.ensures
