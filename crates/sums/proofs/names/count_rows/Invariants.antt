-- `sums::names::count_rows` meets its contract. The loop's invariant: the rows of the first i groups are counted.
use Prim.Native.Nat.{◌-◌}
use lib.ListN.{length}
use Rattle.sums.proofs.RowCount.{Rows}
use Rattle.sums.proofs.names.count_rows.Given as goal

abbrev pub invariant-loop-i : goal.invariant-loop-i
invariant-loop-i l = Rows l.answers (length l.initial.seen - 2) l.n l.i l.seen l.count
