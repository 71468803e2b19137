-- `closed::can_close` meets its contract, by whether the group is entries-aware.
use borrow.Author.Rules.{rules}
use Rattle.closed.specs.Closed.{closes}
use Rattle.closed.proofs.can_close.Goals as goal

pub returns-then-settings : goal.returns-then-settings
unfolding closes
returns-then-settings c = search rules

pub returns : goal.returns
unfolding closes
returns c = search rules
