-- The bytes that were read fit the area, which the invariant says.
use Rattle.std.proofs.Common.{◌≤◌}
use Rattle.namecases.proofs.tables.read.Given as goal

abbrev pub invariant-loop-offset : goal.invariant-loop-offset
invariant-loop-offset l = l.end ≤ 16384
