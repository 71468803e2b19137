-- `flags::bad_flags` meets its contract. The loop's invariant: whether some flag byte passed is above 7.
use mathlib.Core.Path.{refl}
use Rattle.std.proofs.Common.{◌<◌, ltb, arith, get_or, get_or-take, length-take-le}
use Rattle.lists.specs.Below.{any_below}
use Rattle.lists.proofs.Below.{any_last}
use Rattle.flags.specs.Flags.{bad_flags}
use Rattle.flags.proofs.bad_flags.Goals as goal

pub loop-byte-init : goal.loop-byte-init
unfolding bad_flags any_below
loop-byte-init c = refl

pub loop-byte-preserved : goal.loop-byte-preserved
unfolding bad_flags
loop-byte-preserved c =
    let s = c.args in
    let i = c.loop-byte.byte-index in
    let h : i < s.n = omega (arith, length-take-le s.n s.flags.now c.requires) in
    rw (c.loop-byte.invariant, get_or-take s.n s.flags.now i 0 h) (any_last (λ m. ltb 7 (get_or s.flags.now m 0)) i)
