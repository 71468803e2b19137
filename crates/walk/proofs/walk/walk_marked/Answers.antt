-- `walk::walk::walk_marked` meets its contract. The loop's invariant is that of a walk with `head` modules taken off its list, of which the chains
-- of those from place `start` on are marked as followed; the measure is how many of the n modules can still be taken off.
use Prim.Native.Nat.{◌-◌, ◌≤◌}
use mathlib.Core.Path.{sym, ◌∙◌}
use native.Mathlib.Omega.{arith}
use lib.ListN.{length}
use Rattle.records.proofs.Table.{Good, good}
use Rattle.walk.proofs.Walking.{walk_resumes, walk_turns, walk_ends, taken_in, list_within}
use Rattle.walk.proofs.Trail.{trail_begins, trail_turns, trail_ends, part_in, unfollowed_bytes}
use Rattle.walk.proofs.walk.walk_marked.Goals as goal

pub bounds-followed-0 : goal.bounds-followed-0
bounds-followed-0 c = omega (arith, unfollowed_bytes c.requires.clear)

pub loop-head-init : goal.loop-head-init
loop-head-init c =
    let a = c.args in
    let p = c.requires in (
      walk_resumes a.flags.now a.records.now.first.now a.records.now.dependency.now a.records.now.next.now _ _ _ p.state _ p.start_in p.closed,
      trail_begins a.flags.now a.records.now.first.now a.records.now.dependency.now a.records.now.next.now _ _ p.tables.records.few _ _ _ p.clear,
    )

pub offset_bounds-queue-head : goal.offset_bounds-queue-head
offset_bounds-queue-head c =
    let listed : (c.loop-head.found ≤ length c.loop-head.queue) × (c.loop-head.found ≤ length c.args.flags.now) =
    let s = c.loop-head.invariant.0.state in
    let few = list_within c.args.flags.now _ _ s in
    (omega (arith, s.room, few), few) in
    omega (arith, (listed).0, c.well_formed)

pub bounds-queue-head : goal.bounds-queue-head
bounds-queue-head c =
    let listed : (c.loop-head.found ≤ length c.loop-head.queue) × (c.loop-head.found ≤ length c.args.flags.now) =
    let s = c.loop-head.invariant.0.state in
    let few = list_within c.args.flags.now _ _ s in
    (omega (arith, s.room, few), few) in
    omega (arith, (listed).0)

pub follow-found-requires : goal.follow-found-requires
follow-found-requires c =
    let tables_good : Good c.args.records.now.first.now c.args.records.now.dependency.now c.args.records.now.next.now (length c.args.flags.now) (length c.args.records.now.next.now - 1) =
    good _ _ _ _ _ c.requires.tables.good in
    let a = c.args in
    let p = c.loop-head.invariant in
    let h = c.loop-head-test.true in
    record {
      tables = c.requires.tables;
      state = p.0.state;
      module_in = taken_in a.flags.now a.records.now.first.now a.records.now.dependency.now a.records.now.next.now _ _ (tables_good) _ _ _ p.0 h;
      before = p.1.marks;
    }

pub overflow_add-head : goal.overflow_add-head
overflow_add-head c =
    let listed : (c.loop-head.found ≤ length c.loop-head.queue) × (c.loop-head.found ≤ length c.args.flags.now) =
    let s = c.loop-head.invariant.0.state in
    let few = list_within c.args.flags.now _ _ s in
    (omega (arith, s.room, few), few) in
    omega (arith, (listed).0, c.loop-head-test.true, c.well_formed)

pub loop-head-smaller : goal.loop-head-smaller
loop-head-smaller c =
    let listed : (c.loop-head.found ≤ length c.loop-head.queue) × (c.loop-head.found ≤ length c.args.flags.now) =
    let s = c.loop-head.invariant.0.state in
    let few = list_within c.args.flags.now _ _ s in
    (omega (arith, s.room, few), few) in
    omega (arith, (listed).1, c.loop-head-test.true)

pub loop-head-preserved : goal.loop-head-preserved
loop-head-preserved c =
    let tables_good : Good c.args.records.now.first.now c.args.records.now.dependency.now c.args.records.now.next.now (length c.args.flags.now) (length c.args.records.now.next.now - 1) =
    good _ _ _ _ _ c.requires.tables.good in
    let a = c.args in
    let p = c.loop-head.invariant in
    let h = c.loop-head-test.true in
    let e = c.follow-found.ensures in (
      walk_turns a.flags.now a.records.now.first.now a.records.now.dependency.now a.records.now.next.now _ _ (tables_good) _ _ _ p.0 h e.of_value,
      trail_turns a.flags.now a.records.now.first.now a.records.now.dependency.now a.records.now.next.now _ _ (tables_good) _ _ _ p.0 h _ _ p.1 e.of_value e.followed_after,
    )

pub offset_bounds-queue-start : goal.offset_bounds-queue-start
offset_bounds-queue-start c =
    let tables_good : Good c.args.records.now.first.now c.args.records.now.dependency.now c.args.records.now.next.now (length c.args.flags.now) (length c.args.records.now.next.now - 1) =
    good _ _ _ _ _ c.requires.tables.good in
    let part : c.loop-head.found ≤ c.loop-head.head
    → (c.args.start ≤ c.loop-head.found) × (c.loop-head.found ≤ length c.loop-head.queue) =
    λ h.
    let a = c.args in
    let p = c.loop-head.invariant in
    part_in a.flags.now a.records.now.first.now a.records.now.dependency.now a.records.now.next.now _ _ c.requires.tables.records (tables_good) _ _ _ p.0 h _ _ p.1 in
    omega (arith, part c.loop-head-test.false, c.well_formed)

pub slice_bounds-forget_all-count : goal.slice_bounds-forget_all-count
slice_bounds-forget_all-count c =
    let tables_good : Good c.args.records.now.first.now c.args.records.now.dependency.now c.args.records.now.next.now (length c.args.flags.now) (length c.args.records.now.next.now - 1) =
    good _ _ _ _ _ c.requires.tables.good in
    let part : c.loop-head.found ≤ c.loop-head.head
    → (c.args.start ≤ c.loop-head.found) × (c.loop-head.found ≤ length c.loop-head.queue) =
    λ h.
    let a = c.args in
    let p = c.loop-head.invariant in
    part_in a.flags.now a.records.now.first.now a.records.now.dependency.now a.records.now.next.now _ _ c.requires.tables.records (tables_good) _ _ _ p.0 h _ _ p.1 in
    omega (arith, part c.loop-head-test.false)

pub slice_bounds-forget_all-start : goal.slice_bounds-forget_all-start
slice_bounds-forget_all-start c =
    let tables_good : Good c.args.records.now.first.now c.args.records.now.dependency.now c.args.records.now.next.now (length c.args.flags.now) (length c.args.records.now.next.now - 1) =
    good _ _ _ _ _ c.requires.tables.good in
    let part : c.loop-head.found ≤ c.loop-head.head
    → (c.args.start ≤ c.loop-head.found) × (c.loop-head.found ≤ length c.loop-head.queue) =
    λ h.
    let a = c.args in
    let p = c.loop-head.invariant in
    part_in a.flags.now a.records.now.first.now a.records.now.dependency.now a.records.now.next.now _ _ c.requires.tables.records (tables_good) _ _ _ p.0 h _ _ p.1 in
    omega (arith, part c.loop-head-test.false)

pub slice_bounds-forget_all-end : goal.slice_bounds-forget_all-end
slice_bounds-forget_all-end c =
    let tables_good : Good c.args.records.now.first.now c.args.records.now.dependency.now c.args.records.now.next.now (length c.args.flags.now) (length c.args.records.now.next.now - 1) =
    good _ _ _ _ _ c.requires.tables.good in
    let part : c.loop-head.found ≤ c.loop-head.head
    → (c.args.start ≤ c.loop-head.found) × (c.loop-head.found ≤ length c.loop-head.queue) =
    λ h.
    let a = c.args in
    let p = c.loop-head.invariant in
    part_in a.flags.now a.records.now.first.now a.records.now.dependency.now a.records.now.next.now _ _ c.requires.tables.records (tables_good) _ _ _ p.0 h _ _ p.1 in
    omega (arith, part c.loop-head-test.false)

pub forget_all-requires : goal.forget_all-requires
forget_all-requires c =
    let tables_good : Good c.args.records.now.first.now c.args.records.now.dependency.now c.args.records.now.next.now (length c.args.flags.now) (length c.args.records.now.next.now - 1) =
    good _ _ _ _ _ c.requires.tables.good in
    let a = c.args in
    let p = c.loop-head.invariant in
    let h = c.loop-head-test.false in
    trail_ends a.flags.now a.records.now.first.now a.records.now.dependency.now a.records.now.next.now _ _ c.requires.tables.records (tables_good) _ _ _ p.0 h _ _ p.1

pub shape_of-marks : goal.shape_of-marks
shape_of-marks c = c.loop-head.invariant.0.state.mark_bytes ∙ sym c.requires.state.mark_bytes

pub shape_of-queue : goal.shape_of-queue
shape_of-queue c = c.loop-head.invariant.0.queue_length

pub shape_of-followed : goal.shape_of-followed
shape_of-followed c =
    unfollowed_bytes c.forget_all.ensures ∙ sym (unfollowed_bytes c.requires.clear)

pub returns : goal.returns
returns c =
    let a = c.args in
    let p = c.loop-head.invariant.0 in record { walked = walk_ends a.flags.now a.records.now.first.now a.records.now.dependency.now a.records.now.next.now _ _ _ _ _ p c.loop-head-test.false c.requires.state.mark_bytes; followed_after = c.forget_all.ensures }
