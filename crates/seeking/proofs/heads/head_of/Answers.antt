-- The invariant: `best` stands for the numbers of the block below i.
use Prim.Native.Nat.{◌*◌}
use native.Mathlib.Omega.{arith}
use Rattle.seeking.proofs.Blocks.{looked_first, looked_more, looked_all}
use Rattle.seeking.proofs.heads.head_of.Goals as goal

pub loop-i-init : goal.loop-i-init
loop-i-init c =
    (omega (arith, c.block_end-end.ensures.0), looked_first c.args.threshold c.args.sizes.now (16 * c.args.block))

pub ahead-best-requires : goal.ahead-best-requires
ahead-best-requires c =
    let l = c.loop-i in
    (c.requires.0, omega (arith, l.invariant.0, l.invariant.1.below, c.block_end-end.ensures.1), omega (arith, c.block_end-end.ensures.1))

pub loop-i-preserved : goal.loop-i-preserved
loop-i-preserved c =
    let l = c.loop-i in
    let looked = looked_more c.args.threshold c.args.sizes.now c.requires.0 (16 * c.args.block) l.i l.best in
    (omega arith, looked c.ahead-best.result c.ahead-best.ensures l.invariant.1)

pub returns : goal.returns
returns c =
    let l = c.loop-i in
    looked_all c.args.threshold c.args.sizes.now c.args.block l.i l.best l.invariant.1
    (omega (arith, l.invariant.0, c.block_end-end.ensures.1)) (omega (arith, l.invariant.0, c.block_end-end.ensures.2))
    (λ h. omega (arith, c.block_end-end.ensures.3 (omega arith)))
