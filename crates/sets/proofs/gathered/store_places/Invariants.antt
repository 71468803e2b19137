-- `sets::gathered::store_places` meets its contract: the place of one module more a turn.
use Rattle.sets.proofs.Placing.{Placing}
use Rattle.sets.proofs.gathered.store_places.Given as goal

abbrev pub invariant-loop-i : goal.invariant-loop-i
invariant-loop-i l = Placing l.order l.initial.place l.i l.place
