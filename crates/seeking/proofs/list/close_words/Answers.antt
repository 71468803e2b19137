-- The invariant: the places up to i have taken over what stood one further, the others hold what they had. The measure is the places left.
use mathlib.Core.Path.{refl}
use native.Mathlib.Omega.{arith}
use Rattle.seeking.proofs.Removing.{closing_starts, closing_on, closing_ends}
use Rattle.seeking.proofs.list.close_words.Goals as goal

pub loop-i-init : goal.loop-i-init
loop-i-init c = (closing_starts c.args.words.now c.args.place c.requires, refl)

pub bounds-words-i : goal.bounds-words-i
bounds-words-i c =
    let l = c.loop-i in omega (arith, l.invariant.0.same_length, l.invariant.1)

pub bounds-words-i-in-loop-i : goal.bounds-words-i-in-loop-i
bounds-words-i-in-loop-i c =
    let l = c.loop-i in omega (arith, l.invariant.0.same_length, l.invariant.0.most)

pub loop-i-preserved : goal.loop-i-preserved
loop-i-preserved c =
    let l = c.loop-i in
    (closing_on c.args.words.now c.args.place c.requires l.words l.i l.invariant.0 (omega (arith, l.invariant.1)), l.invariant.1)

pub shape_of-words : goal.shape_of-words
shape_of-words c = c.loop-i.invariant.0.same_length

pub returns : goal.returns
returns c =
    let l = c.loop-i in
    closing_ends c.args.words.now c.args.place c.requires l.words l.i l.invariant.0 (omega (arith, l.invariant.1))
