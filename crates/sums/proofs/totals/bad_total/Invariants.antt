-- `sums::totals::bad_total` meets its contract. The loop's invariant: `total` is the sum over the modules passed, and at most 2^53.
use Prim.Native.Nat.{◌≤◌}
use mathlib.Core.Path.{◌≡◌}
use lib.ListN.{length}
use Rattle.sums.proofs.KeptSums.{total_of}
use Rattle.whole.specs.Total.{total_limit}
use Rattle.sums.proofs.totals.bad_total.Given as goal

abbrev pub invariant-loop-byte : goal.invariant-loop-byte
invariant-loop-byte l = (l.total ≡ total_of l.flags l.sizes (length l.yielded)) × (l.total ≤ total_limit)
