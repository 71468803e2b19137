-- `closed::some_left` meets its contract. The loop's invariant: each module before i has a chunk.
use mathlib.Core.Bool.{false}
use mathlib.Core.Path.{◌≡◌, refl, sym, ap, ◌∙◌}
use native.Mathlib.Numerals.{add-one}
use native.Mathlib.Omega.{arith}
use borrow.Author.Tests.{eq-eqb, ne_eqb}
use lib.ListN.{length}
use Rattle.lists.specs.Below.{any_below}
use Rattle.lists.proofs.Below.{any_some}
use Rattle.closed.specs.Closed.{left_at, some_left}
use Rattle.closed.proofs.some_left.Goals as goal

pub loop-module-init : goal.loop-module-init
unfolding any_below
loop-module-init c = (omega arith, refl)

pub returns-then-chunk_of-m-eq0 : goal.returns-then-chunk_of-m-eq0
unfolding some_left
returns-then-chunk_of-m-eq0 c =
    let a = c.args in
    let l = c.loop-module in
    let h = c.loop-module-test.true in
    sym (any_some (left_at a.chunk_of.now a.set.now) (length a.set.now) l.module-index h (eq-eqb _ _ c.if-chunk_of-m-eq0.true))

pub loop-module-preserved : goal.loop-module-preserved
unfolding any_below
loop-module-preserved c =
    let a = c.args in
    let l = c.loop-module in
    let e : left_at a.chunk_of.now a.set.now l.module-index ≡ false = ne_eqb _ _ c.if-chunk_of-m-eq0.false in
    (omega arith, rw (add-one l.module-index, e) l.invariant.1)

pub returns : goal.returns
unfolding some_left
returns c =
    let a = c.args in
    let l = c.loop-module in
    let e : l.module-index ≡ length a.set.now = omega arith in
    sym l.invariant.1 ∙ ap (any_below (left_at a.chunk_of.now a.set.now)) e
