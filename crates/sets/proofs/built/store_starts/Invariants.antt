-- `sets::built::store_starts` meets its contract: the module of one number more a turn.
use Prim.Native.Nat.{◌≤◌}
use lib.ListN.{length, take}
use Rattle.matching.proofs.Writing.{Writing}
use Rattle.sets.specs.Built.{starts_of}
use Rattle.sets.proofs.built.store_starts.Given as goal

abbrev pub invariant-loop-i : goal.invariant-loop-i
invariant-loop-i l = (l.i ≤ length l.run) × Writing (starts_of l.order (take l.i l.run)) l.i l.i l.initial.set l.set
