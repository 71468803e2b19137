-- `sets::gathered::gather_marked` meets its contract: one module more a turn, if it is marked, or a block more without any.
use Prim.Native.Nat.{ℕ, ◌/◌, ◌<◌}
use mathlib.Core.Path.{◌≡◌, sym, ap, ◌∙◌}
use native.Mathlib.Omega.{arith}
use mir.Facts.{Fits-32_64}
use lib.ListN.{length, get_or}
use Rattle.matching.proofs.Writing.{none_written, one_written, none_stored, none_until}
use Rattle.sets.proofs.Marking.{marked_none, marked_in_lem, marked_out, marked_all, marked_block}
use Rattle.sets.proofs.gathered.gather_marked.Goals as goal
use Rattle.sets.proofs.gathered.gather_marked.Goals.{else-marks-m-eq1, then-marks-m-eq1}

pub loop-i-init : goal.loop-i-init
loop-i-init c = rw (marked_none c.args.marks.now c.args.order.now) (none_written c.args.set.now)

pub bounds-blocks-i : goal.bounds-blocks-i
bounds-blocks-i c = omega (arith, c.requires.few, c.requires.all_blocks)

pub loop-i-preserved-then-blocks-i-eq0 : goal.loop-i-preserved-then-blocks-i-eq0
loop-i-preserved-then-blocks-i-eq0 c =
    let l = c.loop-i in
    let m = c.args.marks.now in
    let o = c.args.order.now in
    let blocks = c.args.blocks.now in
    none_until l.invariant (omega arith)
    (marked_block m o l.i (λ j h e q.
    let marked : get_or blocks (l.i / 64) 0 ≡ 1 = ap (λ (k : ℕ). get_or blocks k 0) (sym q) ∙ c.requires.in_block j h e in
    omega (arith, c.if-blocks-i-eq0.true)))

pub overflow_cast-m : goal.overflow_cast-m
overflow_cast-m c = Fits-32_64 (c.type_inv.order _)

pub bounds-marks-m : goal.bounds-marks-m
bounds-marks-m c =
    c.requires.has_mark c.loop-i.i c.loop-i-test.true

pub shape_of-set : goal.shape_of-set
shape_of-set c = c.loop-i.invariant.same_length

pub returns : goal.returns
returns c =
    let l = c.loop-i in
    rw (marked_all c.args.marks.now c.args.order.now l.i c.loop-i-test.false) at l.invariant.holds

pub loop-i-preserved : goal.loop-i-preserved
loop-i-preserved c =
    let l = c.loop-i in
    let h = c.loop-i-test.true in
    let r : l.i < length c.args.set.now = omega (arith, c.requires.room) in
    let o = c.args.order.now in
    let m = c.args.marks.now in
    (elim c.if-marks-m-eq1.branch [
      | then-marks-m-eq1 w ↦ rw w.count-is (one_written l.invariant (get_or o l.i 0) (marked_in_lem m o l.i h w.if-marks-m-eq1.true) r)
      | else-marks-m-eq1 w ↦ rw w.count-is (none_stored l.invariant (get_or o l.i 0) (marked_out m o l.i h w.if-marks-m-eq1.false))
    ])
