-- `ranks::by_id::fill_rank` meets its contract: one module a turn gets its position.
use native.Mathlib.Omega.{arith}
use Rattle.ranks.proofs.Ranking.{none_ranked, one_ranked, all_ranked}
use Rattle.ranks.proofs.by_id.fill_rank.Goals as goal

pub loop-i-init : goal.loop-i-init
loop-i-init c = none_ranked c.args.list.now c.args.rank.now

pub overflow_cast-rank : goal.overflow_cast-rank
overflow_cast-rank c = omega (arith, c.requires.few)

pub overflow_cast-rank-in-loop-i : goal.overflow_cast-rank-in-loop-i
overflow_cast-rank-in-loop-i c = omega (arith, c.requires.has_rank c.loop-i.i (omega arith))

pub offset_bounds-rank-m : goal.offset_bounds-rank-m
offset_bounds-rank-m c = omega (arith, c.requires.has_rank c.loop-i.i (omega arith))

pub bounds-rank-m : goal.bounds-rank-m
bounds-rank-m c = omega (arith, c.requires.has_rank c.loop-i.i (omega arith))

pub loop-i-preserved : goal.loop-i-preserved
loop-i-preserved c =
    let l = c.loop-i in
    one_ranked _ _ _ _ c.requires l.invariant (omega arith)

pub shape_of-rank : goal.shape_of-rank
shape_of-rank c = c.loop-i.invariant.same_length

pub returns : goal.returns
returns c = all_ranked _ _ _ _ c.requires c.loop-i.invariant (omega arith)
