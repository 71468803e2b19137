-- `cut::sizes::total_size` meets its contract. The loop's invariant: the total is that of the first i sizes.
use mathlib.Core.Path.{◌≡◌}
use lib.ListN.{take}
use Rattle.whole.specs.Double.{sum_f64}
use Rattle.cut.specs.Order.{sizes_in}
use Rattle.cut.proofs.sizes.total_size.Given as goal

abbrev pub invariant-loop-module : goal.invariant-loop-module
invariant-loop-module l = l.total ≡ sum_f64 (take l.module-index (sizes_in l.sizes l.order))
