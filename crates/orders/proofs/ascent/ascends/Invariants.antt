-- `orders::ascent::ascends` meets its contract. The loop's invariant: the list falls where what is left of it does.
use mathlib.Core.Path.{◌≡◌}
use lib.ListN.{length}
use Rattle.std.specs.Ordering.{partial_lt}
use Rattle.orders.specs.Ascending.{falls_by}
use Rattle.orders.proofs.ascent.ascends.Given as goal

abbrev pub invariant-loop-rest : goal.invariant-loop-rest
invariant-loop-rest g l = falls_by (partial_lt g.T.PartialOrd.partial_cmp) l.a ≡ falls_by (partial_lt g.T.PartialOrd.partial_cmp) l.rest

abbrev pub decreases-loop-rest : goal.decreases-loop-rest
decreases-loop-rest g l = length l.rest
