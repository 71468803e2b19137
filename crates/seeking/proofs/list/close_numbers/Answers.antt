-- The invariant: the places up to i have taken over what stood one further, the others hold what they had. The measure is the places left.
use mathlib.Core.Path.{refl}
use native.Mathlib.Omega.{arith}
use Rattle.seeking.proofs.Removing.{closing_starts, closing_on, closing_ends}
use Rattle.seeking.proofs.list.close_numbers.Goals as goal

pub loop-i-init : goal.loop-i-init
loop-i-init c = (closing_starts c.args.list.now c.args.place c.requires, refl)

pub bounds-list-i : goal.bounds-list-i
bounds-list-i c =
    let l = c.loop-i in omega (arith, l.invariant.0.same_length, l.invariant.1)

pub bounds-list-i-in-loop-i : goal.bounds-list-i-in-loop-i
bounds-list-i-in-loop-i c =
    let l = c.loop-i in omega (arith, l.invariant.0.same_length, l.invariant.0.most)

pub loop-i-preserved : goal.loop-i-preserved
loop-i-preserved c =
    let l = c.loop-i in
    (closing_on c.args.list.now c.args.place c.requires l.list l.i l.invariant.0 (omega (arith, l.invariant.1)), l.invariant.1)

pub shape_of-list : goal.shape_of-list
shape_of-list c = c.loop-i.invariant.0.same_length

pub returns : goal.returns
returns c =
    let l = c.loop-i in
    closing_ends c.args.list.now c.args.place c.requires l.list l.i l.invariant.0 (omega (arith, l.invariant.1))
