-- The head of the block is written, and no other.
use Prim.Native.Nat.{◌/◌}
use native.Mathlib.Omega.{arith}
use Rattle.seeking.proofs.Blocks.{head_written}
use Rattle.seeking.proofs.heads.refresh.Goals as goal

pub returns : goal.returns
returns c =
    head_written c.args.threshold c.args.sizes.now c.args.heads.now (c.args.number / 16) c.head_of-head.result
    (omega (arith, c.requires.2, c.requires.3)) c.head_of-head.ensures
