-- `sets::gathered::store_places` meets its contract: the place of one module more a turn.
use Rattle.sets.proofs.Placing.{one_placed}
use Rattle.sets.proofs.gathered.store_places.Goals as goal

pub loop-i-preserved : goal.loop-i-preserved
loop-i-preserved c = one_placed c.requires c.loop-i.invariant c.loop-i-test.true
