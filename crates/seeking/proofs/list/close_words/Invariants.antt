-- The invariant: the places up to i have taken over what stood one further, the others hold what they had. The measure is the places left.
use Prim.Native.Nat.{◌-◌}
use mathlib.Core.Path.{◌≡◌}
use lib.ListN.{length}
use Rattle.seeking.proofs.Removing.{Closing}
use Rattle.seeking.proofs.list.close_words.Given as goal

abbrev pub invariant-loop-i : goal.invariant-loop-i
invariant-loop-i l = Closing l.initial.words l.place l.words l.i × (l.last ≡ length l.initial.words - 1)

abbrev pub decreases-loop-i : goal.decreases-loop-i
decreases-loop-i l = l.last - l.i
