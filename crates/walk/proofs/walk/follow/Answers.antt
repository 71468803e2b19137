-- `walk::walk::follow` meets its contract. The loop's invariant: what is left to do from record r on is what was to be done from the chain's
-- first record on. The measure is the number of records left.
use Prim.Native.Nat.{◌-◌}
use mathlib.Core.Path.{sym, ◌∙◌}
use native.Mathlib.Omega.{arith}
use mir.Facts.{Fits-32_64}
use lib.ListN.{length}
use Rattle.records.specs.Chain.{chain_of, dependencies}
use Rattle.records.proofs.ChainMarks.{record_marked}
use Rattle.records.proofs.Table.{Good, good}
use Rattle.walk.proofs.Chains.{follow_begins, follow_ends, followed_ends, follow_less, follow_turns, named_in}
use Rattle.walk.proofs.walk.follow.Goals as goal

pub offset_bounds-records-at : goal.offset_bounds-records-at
offset_bounds-records-at c =
    omega (arith, c.requires.tables.records.firsts, c.requires.module_in)

pub bounds-records-at : goal.bounds-records-at
bounds-records-at c =
    omega (arith, c.requires.tables.records.firsts, c.requires.module_in)

pub loop-followed-init : goal.loop-followed-init
loop-followed-init c =
    let tables_good : Good c.args.records.now.first.now c.args.records.now.dependency.now c.args.records.now.next.now (length c.args.flags.now) (length c.args.records.now.next.now - 1) =
    good _ _ _ _ _ c.requires.tables.good in
    let a = c.args in
    let p = c.requires in
    follow_begins a.flags.now a.records.now.first.now a.records.now.dependency.now a.records.now.next.now _ _ (tables_good) _ _ a.of.0 p.state p.before
    p.module_in

pub bounds-followed-r : goal.bounds-followed-r
bounds-followed-r c =
    let m = c.loop-followed.invariant.marking in omega (arith, m.record_in, m.marked.room)

pub bounds-followed-r-in-loop-followed : goal.bounds-followed-r-in-loop-followed
bounds-followed-r-in-loop-followed c =
    let m = c.loop-followed.invariant.marking in omega (arith, m.record_in, m.marked.room)

pub offset_bounds-records-r : goal.offset_bounds-records-r
offset_bounds-records-r c =
    omega (arith, c.loop-followed.invariant.marking.record_in, c.requires.tables.records.modules)

pub bounds-records-r : goal.bounds-records-r
bounds-records-r c =
    omega (arith, c.loop-followed.invariant.marking.record_in, c.requires.tables.records.modules)

pub visit-found-requires : goal.visit-found-requires
visit-found-requires c =
    let tables_good : Good c.args.records.now.first.now c.args.records.now.dependency.now c.args.records.now.next.now (length c.args.flags.now) (length c.args.records.now.next.now - 1) =
    good _ _ _ _ _ c.requires.tables.good in
    let a = c.args in
    let h = c.loop-followed-test.true in
    record {
      state = c.loop-followed.invariant.state;
      module_in = named_in a.flags.now a.records.now.first.now a.records.now.dependency.now a.records.now.next.now _ _ (tables_good) _ _ _ _ _ _ c.loop-followed.invariant h;
    }

pub offset_bounds-records-r-in-loop-followed : goal.offset_bounds-records-r-in-loop-followed
offset_bounds-records-r-in-loop-followed c =
    omega (arith, c.loop-followed.invariant.marking.record_in, c.requires.tables.records.nexts)

pub bounds-records-r-in-loop-followed : goal.bounds-records-r-in-loop-followed
bounds-records-r-in-loop-followed c =
    omega (arith, c.loop-followed.invariant.marking.record_in, c.requires.tables.records.nexts)

pub loop-followed-smaller : goal.loop-followed-smaller
loop-followed-smaller c =
    let tables_good : Good c.args.records.now.first.now c.args.records.now.dependency.now c.args.records.now.next.now (length c.args.flags.now) (length c.args.records.now.next.now - 1) =
    good _ _ _ _ _ c.requires.tables.good in
    let a = c.args in
    let h = c.loop-followed-test.true in
    follow_less a.flags.now a.records.now.first.now a.records.now.dependency.now a.records.now.next.now _ _ (tables_good) _ _ _ _ _ _ c.loop-followed.invariant h

pub loop-followed-preserved : goal.loop-followed-preserved
loop-followed-preserved c =
    let tables_good : Good c.args.records.now.first.now c.args.records.now.dependency.now c.args.records.now.next.now (length c.args.flags.now) (length c.args.records.now.next.now - 1) =
    good _ _ _ _ _ c.requires.tables.good in
    let a = c.args in
    let h = c.loop-followed-test.true in
    let v = c.visit-found.ensures in
    follow_turns a.flags.now a.records.now.first.now a.records.now.dependency.now a.records.now.next.now _ _ (tables_good) _ _ _ _ _ _ c.loop-followed.invariant h v

pub shape_of-marks : goal.shape_of-marks
shape_of-marks c = c.loop-followed.invariant.state.mark_bytes ∙ sym c.requires.state.mark_bytes

pub shape_of-queue : goal.shape_of-queue
shape_of-queue c = c.loop-followed.invariant.queue_length

pub shape_of-followed : goal.shape_of-followed
shape_of-followed c = c.loop-followed.invariant.marking.same_length

pub returns : goal.returns
unfolding dependencies chain_of
returns c =
    let tables_good : Good c.args.records.now.first.now c.args.records.now.dependency.now c.args.records.now.next.now (length c.args.flags.now) (length c.args.records.now.next.now - 1) =
    good _ _ _ _ _ c.requires.tables.good in
    let a = c.args in
    let p = c.loop-followed.invariant in
    let h = record_marked c.loop-followed.r p.marking.marked c.loop-followed-test.false in record { of_value = follow_ends a.flags.now a.records.now.first.now a.records.now.dependency.now a.records.now.next.now _ _ (tables_good) _ _ _ _ _ _ p h; followed_after = followed_ends a.flags.now a.records.now.first.now a.records.now.dependency.now a.records.now.next.now _ _ (tables_good) _ _ _ _ _ _ p h }
