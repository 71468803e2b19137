-- `records::know_chain` meets its contract. The loop's invariant: what is left to mark from record r on is what was to be marked from the
-- chain's first record on. The measure is the number of records left.
use native.Mathlib.Omega.{arith}
use mir.Facts.{Fits-32_64}
use mathlib.Core.Path.{sym}
use Rattle.records.proofs.ChainMarks.{record_marked}
use Rattle.records.proofs.Marking.{marking_begins, marking_ends, marking_less, marking_turns}
use Rattle.records.proofs.know_chain.Goals as goal

pub loop-known-init : goal.loop-known-init
loop-known-init c =
    let a = c.args in
    let p = c.requires in
    marking_begins a.next.now a.d p.next_in a.known.now a.from p.marks p.from_in p.ends

pub bounds-known-r : goal.bounds-known-r
bounds-known-r c =
    let p = c.loop-known.invariant in omega (arith, p.record_in, p.marked.room)

pub bounds-known-r-in-loop-known : goal.bounds-known-r-in-loop-known
bounds-known-r-in-loop-known c =
    let p = c.loop-known.invariant in omega (arith, p.record_in, p.marked.room)

pub offset_bounds-next-r : goal.offset_bounds-next-r
offset_bounds-next-r c = omega (arith, c.loop-known.invariant.record_in, c.requires.within)

pub bounds-next-r : goal.bounds-next-r
bounds-next-r c = omega (arith, c.loop-known.invariant.record_in, c.requires.within)

pub overflow_cast-r : goal.overflow_cast-r
overflow_cast-r c = Fits-32_64 (c.type_inv.next _)

pub loop-known-smaller : goal.loop-known-smaller
loop-known-smaller c =
    let l = c.loop-known in
    marking_less c.args.next.now c.args.d c.requires.next_in _ _ l.known l.r l.invariant c.loop-known-test.true

pub loop-known-preserved : goal.loop-known-preserved
loop-known-preserved c =
    let l = c.loop-known in
    marking_turns c.args.next.now c.args.d c.requires.next_in _ _ l.known l.r l.invariant c.loop-known-test.true

pub shape_of-known : goal.shape_of-known
shape_of-known c = c.loop-known.invariant.same_length

pub returns : goal.returns
returns c =
    let l = c.loop-known in
    sym (marking_ends c.args.next.now c.args.d c.requires.next_in _ _ l.known l.r l.invariant (record_marked l.r l.invariant.marked c.loop-known-test.false))
