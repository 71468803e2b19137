-- `records::bad_first` meets its contract. The loop's invariant: whether some first record passed is above d.
use mathlib.Core.Path.{refl}
use Rattle.std.proofs.Common.{◌<◌, ltb, arith, get_or, get_or-take, length-take-le}
use Rattle.lists.specs.Below.{any_below}
use Rattle.lists.proofs.Below.{any_last}
use Rattle.records.specs.Bad.{bad_first}
use Rattle.records.proofs.bad_first.Goals as goal

pub loop-record-init : goal.loop-record-init
unfolding bad_first any_below
loop-record-init c = refl

pub loop-record-preserved : goal.loop-record-preserved
unfolding bad_first
loop-record-preserved c =
    let s = c.args in
    let i = c.loop-record.record-index in
    let h : i < s.n = omega (arith, length-take-le s.n s.first.now c.requires.0) in
    rw (c.loop-record.invariant, get_or-take s.n s.first.now i 0 h) (any_last (λ m. ltb s.d (get_or s.first.now m 0)) i)
