-- `orders::ascent::falls` meets its contract. The loop's invariant: what is passed falls, or what is left does, where the list does.
use mathlib.Core.Bool.{◌||◌}
use mathlib.Core.Path.{◌≡◌}
use Rattle.std.specs.Ordering.{partial_lt}
use Rattle.std.specs.Slice.Iter.{windows_rest, windows_size}
use Rattle.orders.specs.Ascending.{falls_by}
use Rattle.orders.proofs.ascent.falls.Given as goal

abbrev pub invariant-loop-pair : goal.invariant-loop-pair
invariant-loop-pair g l =
    (windows_size l.pair-iterator ≡ 2) × (falls_by (partial_lt g.T.PartialOrd.partial_cmp) l.a ≡ (l.falls || falls_by (partial_lt g.T.PartialOrd.partial_cmp) (windows_rest l.pair-iterator)))
