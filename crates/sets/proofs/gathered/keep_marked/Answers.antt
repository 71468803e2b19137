-- `sets::gathered::keep_marked` meets its contract: one module more a turn, which is left if it is marked.
use Prim.Native.Nat.{◌<◌}
use native.Mathlib.Omega.{arith}
use lib.ListN.{length}
use Rattle.sets.proofs.Leaving.{none_left, same_at, one_left, one_gone}
use Rattle.sets.proofs.gathered.keep_marked.Goals as goal
use Rattle.sets.proofs.gathered.keep_marked.Goals.{else-marks-m-eq1, then-marks-m-eq1}

pub loop-i-init : goal.loop-i-init
loop-i-init c = none_left c.args.marks.now c.args.list.now

pub bounds-marks-m : goal.bounds-marks-m
bounds-marks-m c =
    let l = c.loop-i in
    rw (same_at l.invariant) (c.requires l.i (omega (arith, l.invariant.written.same_length)))

pub loop-i-preserved : goal.loop-i-preserved
loop-i-preserved c =
    let l = c.loop-i in
    let h : l.i < length c.args.list.now = omega (arith, l.invariant.written.same_length) in
    (elim c.if-marks-m-eq1.branch [
      | then-marks-m-eq1 w ↦ rw w.count-is (one_left l.invariant h w.if-marks-m-eq1.true)
      | else-marks-m-eq1 w ↦ rw w.count-is (one_gone l.invariant h w.if-marks-m-eq1.false)
    ])
