-- `walk::four::follow_four` meets its contract. The loop's invariant: what is left to do from the four records on is what was to be done from those
-- handed in. The measure is how many modules are still named.
use Prim.Native.Nat.{◌-◌}
use mathlib.Core.List.{[], ◌∷◌}
use lib.ListN.{length}
use Rattle.walk.specs.Chains.{named_from_all}
use Rattle.walk.proofs.SideBySide.{SideBySide}
use Rattle.walk.proofs.four.follow_four.Given as goal

abbrev pub invariant-loop-marks : goal.invariant-loop-marks
invariant-loop-marks l =
    SideBySide l.flags l.dependency l.next (length l.flags) (length l.next - 1) (record { marks = l.initial.marks; queue = l.initial.queue; tail = l.initial.found }) l.initial.count
    (l.initial.a ∷ l.initial.b ∷ l.initial.c ∷ l.initial.d ∷ []) (record { marks = l.marks; queue = l.queue; tail = l.found }) l.count (l.a ∷ l.b ∷ l.c ∷ l.d ∷ [])

abbrev pub decreases-loop-marks : goal.decreases-loop-marks
decreases-loop-marks l = length (named_from_all l.dependency l.next (length l.next - 1) (l.a ∷ l.b ∷ l.c ∷ l.d ∷ []))
