-- `contiguous::lay_chain` meets its contract. The loop's invariant: the chain is laid up to its record r. The measure is the room that is left.
use Prim.Native.Nat.{◌<◌}
use native.Mathlib.Omega.{arith}
use Rattle.contiguous.proofs.LayingChain.{lay_begins, lay_turns}
use Rattle.contiguous.proofs.lay_chain.Goals as goal

pub loop-r-init : goal.loop-r-init
loop-r-init c = (lay_begins c.requires, c.requires.at_in)

pub loop-r-preserved : goal.loop-r-preserved
loop-r-preserved c =
    let h : c.loop-r.to < c.args.room = omega (arith, c.if-room-to.false) in
    (lay_turns c.requires c.loop-r.invariant.0 c.loop-r-test.true h, omega (arith, h))
