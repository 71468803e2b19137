-- `forget::forget_all` meets its contract: with one chain more undone a turn, none of its records is marked any more.
use mathlib.Core.Path.{sym, ◌∙◌}
use native.Mathlib.Omega.{arith}
use mir.Facts.{Fits-32_64}
use Rattle.forget.proofs.Undoing.{all_forget_begins, all_forget_turns, all_forget_ends, chain_ready}
use Rattle.forget.proofs.forget_all.Goals as goal

pub bounds-followed-0 : goal.bounds-followed-0
bounds-followed-0 c = omega (arith, c.requires.marks.bytes)

pub loop-m-init : goal.loop-m-init
loop-m-init c =
    all_forget_begins c.args.first.now c.args.next.now c.args.list.now _ c.args.followed.now c.requires.marks

pub offset_bounds-first-m : goal.offset_bounds-first-m
offset_bounds-first-m c =
    omega (arith, c.requires.list_in c.loop-m.m-index c.loop-m-test.true, c.well_formed)

pub bounds-first-m : goal.bounds-first-m
bounds-first-m c = c.requires.list_in c.loop-m.m-index c.loop-m-test.true

pub overflow_cast-first : goal.overflow_cast-first
overflow_cast-first c = Fits-32_64 (c.type_inv.first _)

pub forget_chain-requires : goal.forget_chain-requires
forget_chain-requires c =
    let a = c.args in
    let i = c.loop-m.m-index in
    let h = c.loop-m-test.true in
    chain_ready a.first.now a.next.now a.list.now _ c.requires.next_in i c.loop-m.followed c.loop-m.invariant h c.requires.within
    (c.requires.first_in i h) (c.requires.ends i h)

pub loop-m-preserved : goal.loop-m-preserved
loop-m-preserved c =
    let a = c.args in
    let i = c.loop-m.m-index in
    let h = c.loop-m-test.true in
    all_forget_turns a.first.now a.next.now a.list.now _ c.requires.next_in i c.loop-m.followed c.loop-m.invariant h
    (c.requires.first_in i h) (c.requires.ends i h) c.forget_chain.ensures

pub shape_of-followed : goal.shape_of-followed
shape_of-followed c = c.loop-m.invariant.bytes ∙ sym c.requires.marks.bytes

pub returns : goal.returns
returns c =
    let l = c.loop-m in
    all_forget_ends c.args.first.now c.args.next.now c.args.list.now _ l.m-index l.followed l.invariant c.loop-m-test.false
