-- `lists::fill::fill_range` meets its contract: one number more a turn.
use lib.ListN.{length}
use Rattle.lists.specs.Range.{range}
use Rattle.lists.proofs.Front.{Copied}
use Rattle.lists.proofs.fill.fill_range.Given as goal

abbrev pub invariant-loop-i : goal.invariant-loop-i
invariant-loop-i l = Copied (range 0 (length l.initial.area)) l.initial.area l.area l.i
