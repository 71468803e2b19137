-- `groups::convert::convert_groups_to_chunks` meets its contract: one group more a turn, and what walks pass over is closed.
use mathlib.Core.Path.{◌≡◌}
use lib.ListN.{length, take}
use Rattle.emitting.specs.Emitted.{work, SameAreas}
use Rattle.forget.specs.Unfollowed.{unfollowed}
use Rattle.closed.specs.Closed.{Closed}
use Rattle.groups.proofs.Turning.{TurnsTo}
use Rattle.groups.proofs.convert.convert_groups_to_chunks.Given as goal

abbrev pub invariant-loop-turn : goal.invariant-loop-turn
invariant-loop-turn l =
    TurnsTo (record { bytes = l.ids.bytes.now; offsets = l.ids.offsets.now; sizes = l.sizes; rank = l.rank })
    (record { flags = l.flags; first = l.records.first.now; dependency = l.records.dependency.now; next = l.records.next.now; order = l.order }) l.bits l.settings l.turns
    (record { answers = l.answers; tags = l.tags; shares = l.shares }) l.n l.number.0 l.at l.turn-index l.made
    (work l.initial.areas)
    (work l.areas)
    × SameAreas l.initial.areas l.areas
    × (length l.scratch ≡ length l.initial.scratch)
    × (length l.marks ≡ 4096)
    × (length l.set ≡ 4096)
    × (length l.matched ≡ 4096)
    × (l.followed ≡ unfollowed)
    × (length l.closed ≡ 4096)
    × Closed l.flags l.records.first.now l.records.dependency.now l.records.next.now (take l.n l.closed) l.areas.chunk_of.now
