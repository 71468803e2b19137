-- `forget::forget_chain` meets its contract. The loop's invariant: what is left to undo from record r on is what was to be undone from the
-- chain's first record on. The measure is the number of records left.
use native.Mathlib.Omega.{arith}
use mir.Facts.{Fits-32_64}
use Rattle.forget.proofs.Undoing.{forget_begins, forget_ends, forget_less, forget_turns}
use Rattle.forget.proofs.forget_chain.Goals as goal

pub loop-followed-init : goal.loop-followed-init
loop-followed-init c = forget_begins c.args.next.now _ c.requires.next_in c.args.followed.now c.args.from c.requires

pub bounds-followed-r : goal.bounds-followed-r
bounds-followed-r c =
    let p = c.loop-followed.invariant in omega (arith, p.record_in, p.undoing.room)

pub bounds-followed-r-in-loop-followed : goal.bounds-followed-r-in-loop-followed
bounds-followed-r-in-loop-followed c =
    let p = c.loop-followed.invariant in omega (arith, p.record_in, p.undoing.room)

pub offset_bounds-next-r : goal.offset_bounds-next-r
offset_bounds-next-r c = omega (arith, c.loop-followed.invariant.record_in, c.requires.within)

pub bounds-next-r : goal.bounds-next-r
bounds-next-r c = omega (arith, c.loop-followed.invariant.record_in, c.requires.within)

pub overflow_cast-r : goal.overflow_cast-r
overflow_cast-r c = Fits-32_64 (c.type_inv.next _)

pub loop-followed-smaller : goal.loop-followed-smaller
loop-followed-smaller c =
    let l = c.loop-followed in
    forget_less c.args.next.now _ c.requires.next_in _ _ l.followed l.r l.invariant c.loop-followed-test.true

pub loop-followed-preserved : goal.loop-followed-preserved
loop-followed-preserved c =
    let l = c.loop-followed in
    forget_turns c.args.next.now _ c.requires.next_in _ _ l.followed l.r l.invariant c.loop-followed-test.true

pub shape_of-followed : goal.shape_of-followed
shape_of-followed c = c.loop-followed.invariant.same_length

pub returns : goal.returns
returns c =
    let l = c.loop-followed in
    forget_ends c.args.next.now _ c.requires.next_in _ _ l.followed l.r l.invariant c.loop-followed-test.false
