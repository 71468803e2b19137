-- `names::convert_names` meets its contract. The loop's invariant: the names before the run at `from` have had their turns, nothing is
-- marked, and what walks pass over is closed.
use Prim.Native.Nat.{◌-◌}
use mathlib.Core.Path.{◌≡◌}
use lib.ListN.{length, replicate}
use Rattle.emitting.specs.Emitted.{SameAreas, work}
use Rattle.forget.specs.Unfollowed.{unfollowed}
use Rattle.closed.specs.Closed.{Closed}
use Rattle.names.proofs.NameSteps.{NamesDone}
use Rattle.names.proofs.convert_names.Given as goal

abbrev pub invariant-loop-from : goal.invariant-loop-from
invariant-loop-from l =
    NamesDone (record { bytes = l.ids.bytes.now; offsets = l.ids.offsets.now; sizes = l.sizes; rank = l.rank })
    (record { flags = l.flags; first = l.records.first.now; dependency = l.records.dependency.now; next = l.records.next.now; order = l.order }) l.bits l.settings l.group l.matched l.number.0 l.at
    (work l.initial.areas) l.from l.made
    (work l.areas)
    × (l.marks ≡ replicate (length l.flags) 0) × (length l.set ≡ length l.initial.set) × (length l.scratch ≡ length l.initial.scratch) × (l.followed ≡ unfollowed)
    × Closed l.flags l.records.first.now l.records.dependency.now l.records.next.now l.closed l.areas.chunk_of.now
    × SameAreas l.initial.areas l.areas

abbrev pub decreases-loop-from : goal.decreases-loop-from
decreases-loop-from l = length l.matched - l.from
