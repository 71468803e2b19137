-- `left::keep_left` meets its contract. The loop's invariant: what is left of the first i modules is written.
use native.Mathlib.Omega.{arith}
use borrow.Author.Tests.{eq-eqb, ne_eqb}
use lib.ListN.{get_or}
use Rattle.left.proofs.KeepLeft.{none_kept, one_kept, one_passed, all_kept}
use Rattle.left.proofs.keep_left.Goals as goal

pub loop-module-init : goal.loop-module-init
loop-module-init c = none_kept _ _ _

pub returns : goal.returns
returns c = all_kept c.loop-module.invariant (omega arith)

pub loop-module-preserved : goal.loop-module-preserved
loop-module-preserved c =
    let l = c.loop-module in
    let a = c.args in
    let m = get_or a.list.now l.module-index 0 in
    let kept = one_kept l.invariant c.loop-module-test.true in
    let passed = one_passed l.invariant c.loop-module-test.true in
    grind (arith, eq-eqb, ne_eqb, kept, passed)
