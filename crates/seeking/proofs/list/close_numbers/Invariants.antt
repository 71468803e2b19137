-- The invariant: the places up to i have taken over what stood one further, the others hold what they had. The measure is the places left.
use Prim.Native.Nat.{◌-◌}
use mathlib.Core.Path.{◌≡◌}
use lib.ListN.{length}
use Rattle.seeking.proofs.Removing.{Closing}
use Rattle.seeking.proofs.list.close_numbers.Given as goal

abbrev pub invariant-loop-i : goal.invariant-loop-i
invariant-loop-i l = Closing l.initial.list l.place l.list l.i × (l.last ≡ length l.initial.list - 1)

abbrev pub decreases-loop-i : goal.decreases-loop-i
decreases-loop-i l = l.last - l.i
