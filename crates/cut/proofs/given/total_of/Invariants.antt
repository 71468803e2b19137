-- `cut::given::total_of` meets its contract. The loop's invariant: the total is that of the first i sizes.
use mathlib.Core.Path.{◌≡◌}
use lib.ListN.{take}
use Rattle.whole.specs.Double.{sum_f64}
use Rattle.cut.proofs.given.total_of.Given as goal

abbrev pub invariant-loop-size : goal.invariant-loop-size
invariant-loop-size l = l.total ≡ sum_f64 (take l.size-index l.sizes)
