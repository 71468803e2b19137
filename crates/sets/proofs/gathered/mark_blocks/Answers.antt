-- `sets::gathered::mark_blocks` meets its contract: the block of one module more a turn.
use mathlib.Core.List.{map}
use mathlib.Core.Path.{refl}
use native.Mathlib.Omega.{arith}
use lib.ListN.{length-map, length-set}
use Rattle.lists.proofs.Map.{get_or_map_below}
use Rattle.lists.proofs.Stored.{stored_none, stored_more}
use Rattle.sets.specs.Gathered.{block_of}
use Rattle.sets.proofs.gathered.mark_blocks.Goals as goal

pub loop-m-init : goal.loop-m-init
loop-m-init c = (omega arith, stored_none 1 (map (block_of c.args.place.now) c.args.list.now) c.args.blocks.now, refl)

pub loop-m-preserved : goal.loop-m-preserved
loop-m-preserved c =
    let l = c.loop-m in
    let a = c.args in
    let h = c.loop-m-test.true in
    let f = block_of a.place.now in
    let list = a.list.now in
    let more = stored_more 1 (map f list) a.blocks.now l.m-index (omega (arith, length-map list f)) l.invariant.1 in
    (omega arith, rw (get_or_map_below f list l.m-index 0 0 h) at more, simp length-set l.invariant.2)
