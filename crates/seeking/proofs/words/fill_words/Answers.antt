-- `seeking::words::fill_words` meets its contract: one word more is written a turn, the rest are as they were.
use Prim.Native.Nat.{◌*◌}
use mathlib.Core.Path.{refl}
use native.Mathlib.Omega.{arith}
use lib.ListN.{length, get_or}
use Rattle.lists.proofs.Front.{none_placed, one_placed}
use Rattle.seeking.proofs.words.fill_words.Goals as goal

pub loop-i-init : goal.loop-i-init
loop-i-init c =
    let a = c.args in none_placed (λ i. get_or a.bits.now (4 * i) 0) (length a.words.now) a.words.now refl

pub loop-i-preserved : goal.loop-i-preserved
loop-i-preserved c =
    let l = c.loop-i in
    let a = c.args in
    one_placed (λ i. get_or a.bits.now (4 * i) 0) (length a.words.now) a.words.now l.words l.i l.invariant (omega (arith, l.invariant.same_length))
