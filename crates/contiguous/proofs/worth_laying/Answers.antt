-- `contiguous::worth_laying` meets its contract.
use mathlib.Core.Path.{sym}
use borrow.Author.Tests.{lt-leb, le-leb}
use Rattle.contiguous.specs.Jumps.{worth_laying}
use Rattle.contiguous.proofs.worth_laying.Goals as goal

pub returns-then-groups-ge16 : goal.returns-then-groups-ge16
unfolding worth_laying
returns-then-groups-ge16 c = rw (le-leb 16 c.args.groups c.if-groups-ge16.true, sym c.jumps.ensures)

pub returns-else-groups-ge16 : goal.returns-else-groups-ge16
unfolding worth_laying
returns-else-groups-ge16 c = rw (lt-leb 16 c.args.groups c.if-groups-ge16.false)
