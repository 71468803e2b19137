-- `lists::store::store_bytes` meets its contract. The loop's invariant: the byte is stored at the first places.
use mathlib.Core.Path.{refl}
use lib.ListN.{length-set}
use Rattle.lists.proofs.Stored.{stored_none, stored_more}
use Rattle.lists.proofs.store.store_bytes.Goals as goal

pub loop-place-init : goal.loop-place-init
loop-place-init c = (stored_none c.args.value c.args.list.now c.args.area.now, refl)

pub loop-place-preserved : goal.loop-place-preserved
loop-place-preserved c =
    let l = c.loop-place in
    let a = c.args in
    (stored_more a.value a.list.now a.area.now l.place-index c.loop-place-test.true l.invariant.0, simp length-set l.invariant.1)
