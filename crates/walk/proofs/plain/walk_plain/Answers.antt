-- `walk::plain::walk_plain` meets its contract. The loop's invariant is that of a walk with `head` modules taken off its list; the measure is how
-- many of the n modules can still be taken off.
use Prim.Native.Nat.{◌-◌, ◌≤◌, ◌<◌}
use mathlib.Core.Path.{sym, ◌∙◌, subst}
use native.Mathlib.Omega.{arith}
use lib.ListN.{length, get_or}
use Rattle.records.proofs.Table.{Good, good}
use Rattle.walk.specs.Chains.{Chain}
use Rattle.walk.proofs.Passing.{link_tables, chain_begins}
use Rattle.walk.proofs.Walking.{walk_begins, walk_takes, walk_turns_from, taken_in, list_within, list_room}
use Rattle.walk.proofs.plain.walk_plain.Goals as goal

pub loop-head-init : goal.loop-head-init
loop-head-init c =
    let a = c.args in
    walk_begins a.flags.now a.records.now.first.now a.records.now.dependency.now a.records.now.next.now _ _ _ c.requires.state

pub shape_of-marks-then-records-gone : goal.shape_of-marks-then-records-gone
shape_of-marks-then-records-gone c = c.loop-head.invariant.state.mark_bytes ∙ sym c.requires.state.mark_bytes

pub shape_of-queue-then-records-gone : goal.shape_of-queue-then-records-gone
shape_of-queue-then-records-gone c = c.loop-head.invariant.queue_length

pub returns-then-records-gone : goal.returns-then-records-gone
returns-then-records-gone c = c.loop-head.invariant

pub overflow_add-head : goal.overflow_add-head
overflow_add-head c =
    let listed : (c.loop-head.found ≤ length c.loop-head.queue) × (c.loop-head.found ≤ length c.args.flags.now) =
    let s = c.loop-head.invariant.state in
    (list_room c.args.flags.now _ _ s, list_within c.args.flags.now _ _ s) in
    omega (arith, (listed).0, c.well_formed)

pub take_four-passed-requires : goal.take_four-passed-requires
take_four-passed-requires c =
    record {
      tables = c.requires.tables;
      state = c.loop-head.invariant.state;
      few = omega (arith, c.if-records-gone.false);
      four = c.if-head-found.true;
    }

pub overflow_add-head-then-head-found : goal.overflow_add-head-then-head-found
overflow_add-head-then-head-found c =
    let listed : (c.loop-head.found ≤ length c.loop-head.queue) × (c.loop-head.found ≤ length c.args.flags.now) =
    let s = c.loop-head.invariant.state in
    (list_room c.args.flags.now _ _ s, list_within c.args.flags.now _ _ s) in
    omega (arith, c.if-head-found.true, (listed).0, c.well_formed)

pub loop-head-smaller-then-head-found : goal.loop-head-smaller-then-head-found
loop-head-smaller-then-head-found c =
    let listed : (c.loop-head.found ≤ length c.loop-head.queue) × (c.loop-head.found ≤ length c.args.flags.now) =
    let s = c.loop-head.invariant.state in
    (list_room c.args.flags.now _ _ s, list_within c.args.flags.now _ _ s) in
    omega (arith, c.if-head-found.true, (listed).1)

pub loop-head-preserved-then-head-found : goal.loop-head-preserved-then-head-found
loop-head-preserved-then-head-found c =
    let a = c.args in
    walk_takes a.flags.now a.records.now.first.now a.records.now.dependency.now a.records.now.next.now _ _ _ _ _ c.loop-head.invariant 4 c.if-head-found.true c.take_four-passed.ensures.visited

pub first_at-from-requires : goal.first_at-from-requires
first_at-from-requires c =
    let listed : (c.loop-head.found ≤ length c.loop-head.queue) × (c.loop-head.found ≤ length c.args.flags.now) =
    let s = c.loop-head.invariant.state in
    (list_room c.args.flags.now _ _ s, list_within c.args.flags.now _ _ s) in
    let tables_good : Good c.args.records.now.first.now c.args.records.now.dependency.now c.args.records.now.next.now (length c.args.flags.now) (length c.args.records.now.next.now - 1) =
    good _ _ _ _ _ c.requires.tables.good in
    let taken : get_or c.loop-head.queue c.loop-head.head 0 < length c.args.flags.now =
    let a = c.args in
    taken_in a.flags.now a.records.now.first.now a.records.now.dependency.now a.records.now.next.now _ _ (tables_good) _ _ _ c.loop-head.invariant c.loop-head-test.true in
    record {
      place_in = omega (arith, (listed).0, c.loop-head-test.true);
      module_in = omega (arith, taken, c.requires.tables.records.firsts);
    }

pub follow_plain-passed-requires : goal.follow_plain-passed-requires
follow_plain-passed-requires c =
    let tables_good : Good c.args.records.now.first.now c.args.records.now.dependency.now c.args.records.now.next.now (length c.args.flags.now) (length c.args.records.now.next.now - 1) =
    good _ _ _ _ _ c.requires.tables.good in
    let taken : get_or c.loop-head.queue c.loop-head.head 0 < length c.args.flags.now =
    let a = c.args in
    taken_in a.flags.now a.records.now.first.now a.records.now.dependency.now a.records.now.next.now _ _ (tables_good) _ _ _ c.loop-head.invariant c.loop-head-test.true in
    let begins = chain_begins c.requires.tables (tables_good) _ (taken) in
    record {
      tables = link_tables c.requires.tables (tables_good);
      state = c.loop-head.invariant.state;
      few = omega (arith, c.if-records-gone.false);
      chain = subst (Chain _ _) (sym c.first_at-from.ensures) begins;
    }

pub overflow_add-head-in-loop-head : goal.overflow_add-head-in-loop-head
overflow_add-head-in-loop-head c =
    let listed : (c.loop-head.found ≤ length c.loop-head.queue) × (c.loop-head.found ≤ length c.args.flags.now) =
    let s = c.loop-head.invariant.state in
    (list_room c.args.flags.now _ _ s, list_within c.args.flags.now _ _ s) in
    omega (arith, c.loop-head-test.true, (listed).0, c.well_formed)

pub loop-head-smaller : goal.loop-head-smaller
loop-head-smaller c =
    let listed : (c.loop-head.found ≤ length c.loop-head.queue) × (c.loop-head.found ≤ length c.args.flags.now) =
    let s = c.loop-head.invariant.state in
    (list_room c.args.flags.now _ _ s, list_within c.args.flags.now _ _ s) in
    omega (arith, c.loop-head-test.true, (listed).1)

pub loop-head-preserved : goal.loop-head-preserved
loop-head-preserved c =
    let tables_good : Good c.args.records.now.first.now c.args.records.now.dependency.now c.args.records.now.next.now (length c.args.flags.now) (length c.args.records.now.next.now - 1) =
    good _ _ _ _ _ c.requires.tables.good in
    let a = c.args in
    let h = c.loop-head-test.true in
    let e = c.first_at-from.ensures in
    walk_turns_from a.flags.now a.records.now.first.now a.records.now.dependency.now a.records.now.next.now _ _ (tables_good) _ _ _ c.loop-head.invariant h e c.follow_plain-passed.ensures.from_value

pub shape_of-marks : goal.shape_of-marks
shape_of-marks c = c.loop-head.invariant.state.mark_bytes ∙ sym c.requires.state.mark_bytes

pub shape_of-queue : goal.shape_of-queue
shape_of-queue c = c.loop-head.invariant.queue_length

pub returns : goal.returns
returns c = c.loop-head.invariant
