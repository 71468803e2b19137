-- `names::convert_names` meets its contract. The loop's invariant: the names before the run at `from` have had their turns, nothing is
-- marked, and what walks pass over is closed.
use Prim.Native.Nat.{ℕ, ◌≤◌}
use mathlib.Core.List.{◌++◌}
use mathlib.Core.Path.{◌≡◌, refl, sym, ap, ◌∙◌}
use native.Mathlib.Omega.{arith}
use lib.ListN.{length, take, drop, replicate, length-replicate}
use lib.Seq.{length-take-le, length_front}
use Rattle.walk.proofs.Trail.{unfollowed_bytes}
use Rattle.matching.proofs.KeysTogether.{keys_together}
use Rattle.closed.proofs.ClosedSets.{live_bytes, closed_as}
use Rattle.emitting.proofs.SameAreas.{same_areas, still_same}
use Rattle.names.proofs.SetOfRun.{names_ascend, run_is, set_ready}
use Rattle.names.proofs.NameSteps.{names_start, number_now, place_now, count_in, number_next, names_next, names_turned}
use Rattle.names.proofs.NameSteps.{set_entries, set_flags, set_offered, closed_then}
use Rattle.names.proofs.convert_names.Goals as goal

pub loop-from-init : goal.loop-from-init
loop-from-init c =
    let room = c.requires.names_room.0 in (
      names_start,
      (c.fill.ensures.after (λ y e. e)) ∙ ap (λ (k : ℕ). replicate k 0) (room.mark_bytes ∙ sym room.modules),
      refl,
      refl,
      room.clear,
      c.requires.names_room.1,
      same_areas _,
    )

pub run_end-to-requires : goal.run_end-to-requires
run_end-to-requires c =
    let p = c.requires.names_turning in (c.loop-from-test.true, keys_together (λ k. k) _ (names_ascend p.turning.fits.passed p.fits) (λ x y m n e. e))

pub offset_bounds-matched-from : goal.offset_bounds-matched-from
offset_bounds-matched-from c = omega (arith, c.run_end-to.ensures.some, c.run_end-to.ensures.within, c.well_formed.1.1.0)

pub slice_bounds-build_left-count : goal.slice_bounds-build_left-count
slice_bounds-build_left-count c = omega (arith, c.run_end-to.ensures.some)

pub slice_bounds-build_left-start : goal.slice_bounds-build_left-start
slice_bounds-build_left-start c = omega (arith, c.run_end-to.ensures.some)

pub slice_bounds-build_left-end : goal.slice_bounds-build_left-end
slice_bounds-build_left-end c = c.run_end-to.ensures.within

pub slice_bounds-build_left-end-in-loop-from : goal.slice_bounds-build_left-end-in-loop-from
slice_bounds-build_left-end-in-loop-from c =
    let list-fits : c.args.n ≤ length c.loop-from.scratch =
    omega (arith, c.requires.names_room.0.scratch_room, c.loop-from.invariant.3) in
    list-fits

pub slice_bounds-build_left-end-in-loop-from-2 : goal.slice_bounds-build_left-end-in-loop-from-2
slice_bounds-build_left-end-in-loop-from-2 c =
    let list-fits : c.args.n ≤ length c.loop-from.scratch =
    omega (arith, c.requires.names_room.0.scratch_room, c.loop-from.invariant.3) in
    sym (length-take-le _ _ (list-fits))

pub build_left-count-requires : goal.build_left-count-requires
build_left-count-requires c =
    let list-fits : c.args.n ≤ length c.loop-from.scratch =
    omega (arith, c.requires.names_room.0.scratch_room, c.loop-from.invariant.3) in
    let room = c.requires.names_room.0 in
    let v = c.loop-from.invariant in
    let ok = c.requires.names_turning.turning.fits.passed in
    let first : length (take c.args.n c.loop-from.scratch) ≡ c.args.n = length-take-le c.args.n c.loop-from.scratch (list-fits) in
    set_ready ok c.requires.names_turning.fits c.run_end-to.ensures.some c.run_end-to.ensures.within (run_is ok c.requires.names_turning.fits v.0.between c.run_end-to.ensures)
    (live_bytes c.args.flags.now c.loop-from.closed c.can_close-closing.result v.5.bytes) room.places
    (omega (arith, room.modules, room.place_room)) v.1
    (omega (arith, room.modules, first)) v.4 (omega (arith, room.modules, room.set_room, v.2))

pub offset_bounds-matched-from-in-loop-from : goal.offset_bounds-matched-from-in-loop-from
offset_bounds-matched-from-in-loop-from c =
    omega (
      arith,
      c.loop-from-test.true,
      c.well_formed.1.1.0,
    )

pub bounds-matched-from : goal.bounds-matched-from
bounds-matched-from c = c.loop-from-test.true

pub slice_bounds-convert_set-end : goal.slice_bounds-convert_set-end
slice_bounds-convert_set-end c =
    let count_small : c.build_left-count.result ≤ c.args.n =
    let v = c.loop-from.invariant in
    omega (
      arith,
      count_in c.requires.names_turning v.0 c.run_end-to.ensures c.can_close-closing.result c.can_close-closing.ensures v.5 c.build_left-count.ensures.set_built,
      c.requires.names_room.0.modules,
    ) in
    let count_fits : c.build_left-count.result ≤ length ((c.build_left-count.new.set)) =
    omega (arith, count_small, c.requires.names_room.0.set_room, c.loop-from.invariant.2, c.build_left-count.auto.set) in
    count_fits

pub slice_bounds-convert_set-end-in-loop-from : goal.slice_bounds-convert_set-end-in-loop-from
slice_bounds-convert_set-end-in-loop-from c =
    let count_small : c.build_left-count.result ≤ c.args.n =
    let v = c.loop-from.invariant in
    omega (
      arith,
      count_in c.requires.names_turning v.0 c.run_end-to.ensures c.can_close-closing.result c.can_close-closing.ensures v.5 c.build_left-count.ensures.set_built,
      c.requires.names_room.0.modules,
    ) in
    let count_fits : c.build_left-count.result ≤ length ((c.build_left-count.new.set)) =
    omega (arith, count_small, c.requires.names_room.0.set_room, c.loop-from.invariant.2, c.build_left-count.auto.set) in
    sym (length-take-le _ _ (count_fits))

pub overflow_cast-made : goal.overflow_cast-made
overflow_cast-made c =
    omega (arith, number_now c.requires.names_turning c.loop-from.invariant.0)

pub overflow_add-number : goal.overflow_add-number
overflow_add-number c =
    omega (arith, number_now c.requires.names_turning c.loop-from.invariant.0)

pub overflow_add-at : goal.overflow_add-at
overflow_add-at c =
    omega (arith, place_now c.requires.names_turning c.loop-from.invariant.0, c.room-room.ensures.count, c.room-room.ensures.small)

pub convert_set-made-requires : goal.convert_set-made-requires
convert_set-made-requires c =
    let count_small : c.build_left-count.result ≤ c.args.n =
    let v = c.loop-from.invariant in
    omega (
      arith,
      count_in c.requires.names_turning v.0 c.run_end-to.ensures c.can_close-closing.result c.can_close-closing.ensures v.5 c.build_left-count.ensures.set_built,
      c.requires.names_room.0.modules,
    ) in
    let count_fits : c.build_left-count.result ≤ length ((c.build_left-count.new.set)) =
    omega (arith, count_small, c.requires.names_room.0.set_room, c.loop-from.invariant.2, c.build_left-count.auto.set) in
    let scratch-back : length ((c.build_left-count.new.queue) ++ drop c.args.n c.loop-from.scratch) ≡ length c.args.scratch.now =
    length_front c.loop-from.scratch ((c.build_left-count.new.queue)) c.args.n c.build_left-count.auto.queue ∙ c.loop-from.invariant.3 in
    let room = c.requires.names_room.0 in
    let v = c.loop-from.invariant in
    let count = length-take-le c.build_left-count.result ((c.build_left-count.new.set)) (count_fits) in record { set_offered = set_offered c.requires.names_turning v.0 c.run_end-to.ensures c.can_close-closing.result c.can_close-closing.ensures v.5 c.build_left-count.ensures.set_built; set_len_bound = (omega (arith, count_small, count), room.few, omega (arith, room.scratch_room, scratch-back)) }

pub overflow_add-made : goal.overflow_add-made
overflow_add-made c =
    let v = c.loop-from.invariant in
    let b = c.build_left-count in
    omega (
      arith,
      number_next c.requires.names_turning v.0 c.run_end-to.ensures c.can_close-closing.result c.can_close-closing.ensures v.5 b.ensures.set_built c.convert_set-made.ensures.set_taken,
    )

pub slice_bounds-close_set-end : goal.slice_bounds-close_set-end
slice_bounds-close_set-end c =
    let count_small : c.build_left-count.result ≤ c.args.n =
    let v = c.loop-from.invariant in
    omega (
      arith,
      count_in c.requires.names_turning v.0 c.run_end-to.ensures c.can_close-closing.result c.can_close-closing.ensures v.5 c.build_left-count.ensures.set_built,
      c.requires.names_room.0.modules,
    ) in
    let count_fits : c.build_left-count.result ≤ length ((c.build_left-count.new.set)) =
    omega (arith, count_small, c.requires.names_room.0.set_room, c.loop-from.invariant.2, c.build_left-count.auto.set) in
    count_fits

pub slice_bounds-close_set-end-in-loop-from : goal.slice_bounds-close_set-end-in-loop-from
slice_bounds-close_set-end-in-loop-from c =
    let count_small : c.build_left-count.result ≤ c.args.n =
    let v = c.loop-from.invariant in
    omega (
      arith,
      count_in c.requires.names_turning v.0 c.run_end-to.ensures c.can_close-closing.result c.can_close-closing.ensures v.5 c.build_left-count.ensures.set_built,
      c.requires.names_room.0.modules,
    ) in
    let count_fits : c.build_left-count.result ≤ length ((c.build_left-count.new.set)) =
    omega (arith, count_small, c.requires.names_room.0.set_room, c.loop-from.invariant.2, c.build_left-count.auto.set) in
    sym (length-take-le _ _ (count_fits))

pub close_set-requires : goal.close_set-requires
close_set-requires c =
    let p = c.requires.names_turning in
    let v = c.loop-from.invariant in
    let b = c.build_left-count in (
      λ i h. omega (
        arith,
        set_entries p v.0 c.run_end-to.ensures c.can_close-closing.result c.can_close-closing.ensures v.5 b.ensures.set_built i
            h,
        c.convert_set-made.ensures.same.lengths.chunk_of,
      ),
      λ i h. omega (
        arith,
        set_flags p v.0 c.run_end-to.ensures c.can_close-closing.result c.can_close-closing.ensures v.5 b.ensures.set_built i
            h,
        v.5.bytes,
      ),
    )

pub loop-from-smaller : goal.loop-from-smaller
loop-from-smaller c =
    let e = c.run_end-to.ensures in
    omega (arith, e.some, e.within)

pub shape_of-closed : goal.shape_of-closed
shape_of-closed c = c.loop-from.invariant.5.bytes ∙ sym c.requires.names_room.1.bytes

pub shape_of-marks : goal.shape_of-marks
shape_of-marks c =
    let marks-kept : length c.loop-from.marks ≡ length c.args.marks.now =
    let room = c.requires.names_room.0 in
    ap length c.loop-from.invariant.1 ∙ length-replicate (length c.args.flags.now) 0 ∙ room.modules ∙ sym room.mark_bytes in
    marks-kept

pub shape_of-followed : goal.shape_of-followed
shape_of-followed c = unfollowed_bytes c.loop-from.invariant.4 ∙ sym (unfollowed_bytes c.requires.names_room.0.clear)

pub shape_of-set : goal.shape_of-set
shape_of-set c = c.loop-from.invariant.2

pub shape_of-scratch : goal.shape_of-scratch
shape_of-scratch c = c.loop-from.invariant.3

pub returns : goal.returns
returns c =
    let marks-kept : length c.loop-from.marks ≡ length c.args.marks.now =
    let room = c.requires.names_room.0 in
    ap length c.loop-from.invariant.1 ∙ length-replicate (length c.args.flags.now) 0 ∙ room.modules ∙ sym room.mark_bytes in
    let v = c.loop-from.invariant in record { names_turned = names_turned v.0 c.loop-from-test.false; marks_len_unchanged = (marks-kept, v.2, v.3, v.4, v.5); same = v.6 }

pub loop-from-preserved : goal.loop-from-preserved
loop-from-preserved c =
    let scratch-back : length ((c.build_left-count.new.queue) ++ drop c.args.n c.loop-from.scratch) ≡ length c.args.scratch.now =
    length_front c.loop-from.scratch ((c.build_left-count.new.queue)) c.args.n c.build_left-count.auto.queue ∙ c.loop-from.invariant.3 in
    let v = c.loop-from.invariant in
    let b = c.build_left-count in
    let long = live_bytes c.args.flags.now c.loop-from.closed c.can_close-closing.result v.5.bytes in (
      names_next c.requires.names_turning v.0 c.run_end-to.ensures c.can_close-closing.result c.can_close-closing.ensures v.5 b.ensures.set_built c.convert_set-made.ensures.set_taken
          c.convert_set-made.ensures.same.lengths,
      b.ensures.marks_after.0 ∙ ap (λ (c : ℕ). replicate c 0) long,
      b.auto.set ∙ v.2,
      c.convert_set-made.ensures.scratch_len_unchanged ∙ scratch-back,
      b.ensures.marks_after.1,
      closed_as c.close_set.ensures
          (closed_then c.requires.names_turning v.0 c.run_end-to.ensures c.can_close-closing.result c.can_close-closing.ensures v.5 b.ensures.set_built c.convert_set-made.ensures.set_taken),
      still_same v.6 c.convert_set-made.ensures.same,
    )
