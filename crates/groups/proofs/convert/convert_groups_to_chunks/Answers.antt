-- `groups::convert::convert_groups_to_chunks` meets its contract: one group more a turn, and what walks pass over is closed.
use Prim.Native.Nat.{ℕ, ◌≤◌}
use mathlib.Core.Path.{◌≡◌, refl, sym, ap, ◌∙◌}
use native.Mathlib.Omega.{arith}
use lib.ListN.{length, take, drop, replicate, length-replicate}
use lib.Seq.{length-take-le, length_front, take_at}
use Rattle.lists.proofs.Stored.{zeros}
use Rattle.forget.specs.Unfollowed.{unfollowed}
use Rattle.emitting.proofs.SameAreas.{same_areas, still_same}
use Rattle.closed.proofs.ClosedSets.{closed_none, closed_as}
use Rattle.names.proofs.OrderOf.{places_free}
use Rattle.groups.proofs.Turning.{none_turned, next_turning, one_turned, all_turned, number_small, record_in}
use Rattle.groups.proofs.Turning.{given_few, given_flags, order_few, group_small, row_small, row_within}
use Rattle.groups.proofs.convert.convert_groups_to_chunks.Goals as goal

-- the front of an area of zeros
zeros-long : {n : ℕ} → n ≤ 4096 → n ≤ length (replicate {A = ℕ} 4096 0)
zeros-long h = omega (arith, length-replicate {A = ℕ} 4096 0)

zeros-front : (n : ℕ) → n ≤ 4096 → length (take n (replicate {A = ℕ} 4096 0)) ≡ n
zeros-front n h = length-take-le n (replicate 4096 0) (zeros-long h)

pub store_places-requires : goal.store_places-requires
store_places-requires c =
    let p = c.requires.groups_turning in
    places_free p.turning.fits.passed p.fits.walks (omega (arith, given_flags p, given_few p, length-replicate {A = ℕ} 4096 0))
    (λ m. omega (arith, zeros 4096 m))

pub slice_bounds-closed-end : goal.slice_bounds-closed-end
slice_bounds-closed-end c =
    omega (
      arith,
      given_few c.requires.groups_turning,
    )

pub slice_bounds-copy_from_slice-end : goal.slice_bounds-copy_from_slice-end
slice_bounds-copy_from_slice-end c =
    sym (zeros-front c.args.n (given_few c.requires.groups_turning))

pub copy_from_slice-requires : goal.copy_from_slice-requires
copy_from_slice-requires c =
    zeros-front c.args.n (given_few c.requires.groups_turning) ∙ sym (given_flags c.requires.groups_turning)

pub loop-turn-init : goal.loop-turn-init
unfolding unfollowed
loop-turn-init c =
    let p = c.requires.groups_turning in
    let n = c.args.n in
    let r = c.copy_from_slice in
    let front = r.new.self in (
      none_turned,
      same_areas _,
      refl,
      length-replicate {A = ℕ} 4096 0,
      length-replicate {A = ℕ} 4096 0,
      length-replicate {A = ℕ} 4096 0,
      refl,
      length_front (replicate 4096 0) front n r.auto.self ∙ length-replicate {A = ℕ} 4096 0,
      closed_as (take_at front (drop n (replicate 4096 0)) n (ap length r.ensures.after ∙ given_flags p) ∙ r.ensures.after)
          (closed_none c.args.flags.now c.args.records.now.first.now c.args.records.now.dependency.now c.args.records.now.next.now c.args.areas.now.chunk_of.now),
    )

pub overflow_mul-from : goal.overflow_mul-from
overflow_mul-from c = omega (arith, row_small c.requires.groups_turning c.loop-turn.turn-index c.loop-turn-test.true)

pub overflow_add-to : goal.overflow_add-to
overflow_add-to c = omega (arith, row_small c.requires.groups_turning c.loop-turn.turn-index c.loop-turn-test.true)

pub bounds-settings-g : goal.bounds-settings-g
bounds-settings-g c = group_small c.requires.groups_turning c.loop-turn.turn-index c.loop-turn-test.true

pub offset_bounds-answers-from : goal.offset_bounds-answers-from
offset_bounds-answers-from c = omega (arith, row_small c.requires.groups_turning c.loop-turn.turn-index c.loop-turn-test.true)

pub slice_bounds-convert_group-end : goal.slice_bounds-convert_group-end
slice_bounds-convert_group-end c = row_within c.requires.groups_turning c.loop-turn.turn-index c.loop-turn-test.true

pub overflow_cast-made : goal.overflow_cast-made
overflow_cast-made c = omega (arith, number_small c.loop-turn.invariant.0 c.requires.groups_turning)

pub overflow_add-number : goal.overflow_add-number
overflow_add-number c = omega (arith, number_small c.loop-turn.invariant.0 c.requires.groups_turning)

pub overflow_add-at : goal.overflow_add-at
overflow_add-at c =
    let l = c.loop-turn in
    omega (arith, record_in l.invariant.0 c.requires.groups_turning, l.invariant.1.lengths.group_of, c.room-room.ensures.count, c.room-room.ensures.small)

pub slice_bounds-closed-end-in-loop-turn : goal.slice_bounds-closed-end-in-loop-turn
slice_bounds-closed-end-in-loop-turn c =
    omega (
      arith,
      given_few c.requires.groups_turning,
      c.loop-turn.invariant.7,
    )

pub slice_bounds-convert_group-end-in-loop-turn-2 : goal.slice_bounds-convert_group-end-in-loop-turn-2
slice_bounds-convert_group-end-in-loop-turn-2 c =
    let l = c.loop-turn in
    sym (length-take-le _ l.closed (omega (arith, given_few c.requires.groups_turning, l.invariant.7)))

pub slice_bounds-marks-end : goal.slice_bounds-marks-end
slice_bounds-marks-end c =
    omega (arith, given_few c.requires.groups_turning, c.loop-turn.invariant.3)

pub slice_bounds-convert_group-end-in-loop-turn-3 : goal.slice_bounds-convert_group-end-in-loop-turn-3
slice_bounds-convert_group-end-in-loop-turn-3 c =
    let l = c.loop-turn in
    sym (length-take-le _ l.marks (omega (arith, given_few c.requires.groups_turning, l.invariant.3)))

pub convert_group-made-requires : goal.convert_group-made-requires
convert_group-made-requires c =
    let p = c.requires.groups_turning in
    let l = c.loop-turn in
    let placed = c.store_places in record {
      group_turning = next_turning l.invariant.0 p _ c.loop-turn-test.true;
      names_room = (
        record {
          few = given_few p;
          modules = given_flags p;
          places = placed.ensures;
          place_room = omega (arith, given_few p, placed.auto.place, length-replicate {A = ℕ} 4096 0);
          mark_bytes = length-take-le _ l.marks (omega (arith, given_few p, l.invariant.3));
          set_room = omega (arith, given_few p, l.invariant.4);
          scratch_room = omega (arith, c.requires.n_in_bounds, l.invariant.2);
          clear = l.invariant.6;
        },
        omega (arith, order_few p, l.invariant.5),
        l.invariant.8,
      );
    }

pub overflow_add-made : goal.overflow_add-made
overflow_add-made c =
    let l = c.loop-turn in
    let next = one_turned l.invariant.0 _ c.loop-turn-test.true c.convert_group-made.ensures.group_turned in
    let kept = c.convert_group-made.ensures.same.lengths.group_of in
    omega (arith, record_in next c.requires.groups_turning, l.invariant.1.lengths.group_of, kept, c.room-room.ensures.count, c.room-room.ensures.small)

pub loop-turn-preserved : goal.loop-turn-preserved
loop-turn-preserved c =
    let l = c.loop-turn in
    let r = c.convert_group-made in
    let same = l.invariant.1 in
    let marks = r.new.marks in
    let front = r.new.closed in
    let n = c.args.n in
    let fits = length-take-le n l.closed (omega (arith, given_few c.requires.groups_turning, l.invariant.7)) in (
      one_turned l.invariant.0 _ c.loop-turn-test.true r.ensures.group_turned,
      still_same same r.ensures.same,
      r.auto.scratch ∙ l.invariant.2,
      length_front l.marks marks n r.auto.marks ∙ l.invariant.3,
      r.auto.set ∙ l.invariant.4,
      r.auto.matched ∙ l.invariant.5,
      r.ensures.marks_len_unchanged.4,
      length_front l.closed front n r.auto.closed ∙ l.invariant.7,
      closed_as (take_at front (drop n l.closed) n (r.auto.closed ∙ fits)) r.ensures.marks_len_unchanged.5,
    )

pub returns : goal.returns
returns c =
    let l = c.loop-turn in record { groups_turned = all_turned l.invariant.0 c.loop-turn-test.false; scratch_len_unchanged = l.invariant.2; same = l.invariant.1 }
