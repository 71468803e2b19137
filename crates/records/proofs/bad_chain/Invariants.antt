-- `records::bad_chain` meets its contract. The outer loop's invariant: every chain passed has its zero within d records, and so has that of every
-- known record. The inner one: the chain from `start` has its zero within some records more just where the rest of it, from record r on, has.
use Prim.Native.Nat.{ℕ, ◌≤◌, ◌<◌}
use mathlib.Core.Bool.{false, not}
use mathlib.Core.Path.{◌≡◌}
use lib.ListN.{length, get_or}
use Rattle.records.specs.Chain.{ended}
use Rattle.records.specs.Marks.{Known}
use Rattle.records.proofs.Known.{Along}
use Rattle.records.proofs.bad_chain.Given as goal

abbrev pub invariant-loop-r : goal.invariant-loop-r
invariant-loop-r l = (l.bad ≡ false) × (l.r ≤ l.d) × (l.left ≤ l.d) × Along l.next l.d l.start l.left l.r

abbrev pub decreases-loop-r : goal.decreases-loop-r
decreases-loop-r l = l.left

abbrev pub invariant-modules : goal.invariant-modules
invariant-modules l =
    (l.bad ≡ false) × ((k : ℕ) → k < l.from-index → not (ended l.next l.d (get_or l.first k 0)) ≡ false) × Known l.next l.d l.known × (length l.known ≡ length l.initial.known)
