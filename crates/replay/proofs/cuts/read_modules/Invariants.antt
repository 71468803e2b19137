-- The bytes that were read fit their area, which the invariant says.
use Rattle.std.proofs.Common.{◌≤◌}
use Rattle.replay.proofs.cuts.read_modules.Given as goal

abbrev pub invariant-modules : goal.invariant-modules
invariant-modules l = l.end ≤ 16384
