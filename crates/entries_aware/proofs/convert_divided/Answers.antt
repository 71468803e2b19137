-- `entries_aware::convert_divided` meets its contract. The loop's invariant: the subgroups whose runs are passed have had their turns.
use Rattle.std.proofs.Common.{◌≡◌, ℕ, get_or, ◌*◌, ◌+◌, ◌-◌, ◌≤◌, List, ◌++◌, length, take, drop, refl, sym, ap, ◌∙◌, arith, length-append, length-drop}
use lib.Ieee.{Float}
use lib.ListN.{length-map}
use lib.Seq.{length-take-le, take-append_seam}
use Rattle.lists.specs.Packed.{key_of}
use Rattle.emitting.specs.Emitted.{Work, work, SameLengths}
use Rattle.emitting.proofs.SameAreas.{same_areas, still_same}
use Rattle.sets.specs.Built.{start_at, starts_of}
use Rattle.entries_aware.proofs.Runs.{runs_together, walk_none, walk_number, walk_place, walk_more, walk_all}
use Rattle.entries_aware.proofs.Runs.{run_row, run_length, run_room, run_positions, run_entries, run_ready}
use Rattle.entries_aware.proofs.convert_divided.Goals as goal

-- ---- the n modules of a run, written to the front of a list

stored_long : (set run new : List ℕ) {n : ℕ} → length run ≡ n → new ≡ starts_of set run → length new ≡ n
stored_long set run new long is = ap length is ∙ length-map run (start_at set) ∙ long

front_is : (set run new rest : List ℕ) {n : ℕ} → length run ≡ n → new ≡ starts_of set run → take n (new ++ rest) ≡ starts_of set run
front_is set run new rest long is = ap (λ (k : ℕ). take k (new ++ rest)) (sym (stored_long set run new long is)) ∙ take-append_seam new rest ∙ is

front_long : (set run new rest : List ℕ) {n : ℕ} → length run ≡ n → new ≡ starts_of set run → length (take n (new ++ rest)) ≡ n
front_long set run new rest long is = ap length (front_is set run new rest long is) ∙ length-map run (start_at set) ∙ long

list_long : (set run new list : List ℕ) {n : ℕ} → length run ≡ n → new ≡ starts_of set run → n ≤ 4096 → length list ≡ 4096 → length (new ++ drop n list) ≡ 4096
list_long set run new list {n} long is small all =
    omega (arith, length-append new (drop n list), length-drop n list, stored_long set run new long is)

pub loop-from-init : goal.loop-from-init
loop-from-init c = let a = c.args in (walk_none a.settings a.group a.name c.requires, refl, refl, same_areas _)

pub run_end-to-requires : goal.run_end-to-requires
run_end-to-requires c = let a = c.args in (c.loop-from-test.true, runs_together a.settings a.group a.name c.requires)

pub overflow_sub-count : goal.overflow_sub-count
overflow_sub-count c = omega (arith, c.run_end-to.ensures.some)

pub bounds-divided-from : goal.bounds-divided-from
bounds-divided-from c = omega (arith, c.loop-from-test.true)

pub overflow_cast-divided : goal.overflow_cast-divided
overflow_cast-divided c = omega (arith, c.type_inv.divided c.loop-from.from)

pub row-own-requires : goal.row-own-requires
row-own-requires c =
    let row-there : 4 * key_of (get_or c.args.divided.now c.loop-from.from 0) + 4 ≤ length c.args.kind_bits.now =
    let a = c.args in
    run_row a.settings a.group a.name c.requires c.loop-from.invariant.0 c.run_end-to.ensures in
    row-there

pub offset_bounds-divided-from-in-loop-from : goal.offset_bounds-divided-from-in-loop-from
offset_bounds-divided-from-in-loop-from c =
    let p = c.requires in
    omega (arith, c.run_end-to.ensures.some, c.run_end-to.ensures.within, p.few, p.positions)

pub slice_bounds-store_starts-count : goal.slice_bounds-store_starts-count
slice_bounds-store_starts-count c = omega (arith, c.run_end-to.ensures.some)

pub slice_bounds-store_starts-start : goal.slice_bounds-store_starts-start
slice_bounds-store_starts-start c =
    let h : c.loop-from.from ≤ c.run_end-to.result = omega (arith, c.run_end-to.ensures.some) in
    h

pub slice_bounds-store_starts-end : goal.slice_bounds-store_starts-end
slice_bounds-store_starts-end c = c.run_end-to.ensures.within

pub slice_bounds-list-end : goal.slice_bounds-list-end
slice_bounds-list-end c =
    let a = c.args in
    let w = c.loop-from.invariant.0 in
    let e = c.run_end-to in
    let room = run_room a.settings a.group a.name c.requires w e.ensures in
    omega (arith, room, c.requires.few, c.loop-from.invariant.1)

pub slice_bounds-store_starts-end-in-loop-from : goal.slice_bounds-store_starts-end-in-loop-from
slice_bounds-store_starts-end-in-loop-from c =
    let a = c.args in
    let w = c.loop-from.invariant.0 in
    let e = c.run_end-to in
    let room = run_room a.settings a.group a.name c.requires w e.ensures in
    sym (length-take-le _ _ (omega (arith, room, c.requires.few, c.loop-from.invariant.1)))

pub store_starts-requires : goal.store_starts-requires
store_starts-requires c =
    let a = c.args in
    let w = c.loop-from.invariant.0 in
    let e = c.run_end-to in
    let room = run_room a.settings a.group a.name c.requires w e.ensures in
    let long = run_length a.settings a.group a.name c.requires w e.ensures in (
      run_positions a.settings a.group a.name c.requires w e.ensures,
      long ∙ sym (length-take-le _ _ (omega (arith, room, c.requires.few, c.loop-from.invariant.1))),
    )

pub slice_bounds-list-end-in-loop-from : goal.slice_bounds-list-end-in-loop-from
slice_bounds-list-end-in-loop-from c =
    let a = c.args in
    let w = c.loop-from.invariant.0 in
    let e = c.run_end-to in
    let room = run_room a.settings a.group a.name c.requires w e.ensures in
    let long = run_length a.settings a.group a.name c.requires w e.ensures in
    let all = list_long a.set.now _ c.store_starts.new.set c.loop-from.list long c.store_starts.ensures (omega (arith, room, c.requires.few)) c.loop-from.invariant.1 in
    omega (arith, room, c.requires.few, all)

pub slice_bounds-convert_item_to_chunks-end : goal.slice_bounds-convert_item_to_chunks-end
slice_bounds-convert_item_to_chunks-end c =
    let a = c.args in
    let w = c.loop-from.invariant.0 in
    let e = c.run_end-to in
    let long = run_length a.settings a.group a.name c.requires w e.ensures in
    sym (front_long a.set.now _ c.store_starts.new.set _ long c.store_starts.ensures)

pub overflow_cast-made : goal.overflow_cast-made
overflow_cast-made c =
    let number_small : c.args.number.0 + c.loop-from.made ≤ 73727 =
    let a = c.args in walk_number a.settings a.group a.name c.requires c.loop-from.invariant.0 in
    omega (arith, number_small)

pub overflow_add-number : goal.overflow_add-number
overflow_add-number c =
    let number_small : c.args.number.0 + c.loop-from.made ≤ 73727 =
    let a = c.args in walk_number a.settings a.group a.name c.requires c.loop-from.invariant.0 in
    omega (arith, number_small)

pub overflow_add-at : goal.overflow_add-at
overflow_add-at c =
    let place-small : c.args.at + c.loop-from.made ≤ length c.loop-from.areas.group_of.now =
    let a = c.args in walk_place a.settings a.group a.name c.requires c.loop-from.invariant.0 in
    omega (arith, place-small, c.room-room.ensures.count, c.room-room.ensures.small)

pub convert_item_to_chunks-more-requires : goal.convert_item_to_chunks-more-requires
convert_item_to_chunks-more-requires c =
    let a = c.args in
    let w = c.loop-from.invariant.0 in
    let e = c.run_end-to in
    let room = run_room a.settings a.group a.name c.requires w e.ensures in
    let long = run_length a.settings a.group a.name c.requires w e.ensures in
    let rest : List ℕ = drop (e.result - c.loop-from.from) c.loop-from.list in
    let is = front_is a.set.now _ c.store_starts.new.set rest long c.store_starts.ensures in
    let front = front_long a.set.now _ c.store_starts.new.set rest long c.store_starts.ensures in
    record {
      item_ready = run_ready a.settings a.group a.name c.requires w e.ensures _ is;
      listed = record {
        numbered = run_entries a.settings a.group a.name c.requires w e.ensures _ is;
        space = omega (arith, front, room, c.requires.space, c.loop-from.invariant.2);
      };
    }

pub overflow_add-made : goal.overflow_add-made
overflow_add-made c =
    let a = c.args in
    let w = c.loop-from.invariant.0 in
    let e = c.run_end-to in
    let long = run_length a.settings a.group a.name c.requires w e.ensures in
    let rest : List ℕ = drop (e.result - c.loop-from.from) c.loop-from.list in
    let is = front_is a.set.now _ c.store_starts.new.set rest long c.store_starts.ensures in
    let l = c.loop-from in
    let m = c.convert_item_to_chunks-more in
    let kept = m.ensures.same.lengths in
    let turned = walk_more a.settings a.group a.name c.requires w e.ensures _ is c.row-own.result c.row-own.ensures kept m.ensures.converted in
    omega (arith, walk_number a.settings a.group a.name c.requires turned)

pub loop-from-smaller : goal.loop-from-smaller
loop-from-smaller c =
    omega (arith, c.run_end-to.ensures.some, c.run_end-to.ensures.within)

pub loop-from-preserved : goal.loop-from-preserved
loop-from-preserved c =
    let a = c.args in
    let w = c.loop-from.invariant.0 in
    let e = c.run_end-to in
    let room = run_room a.settings a.group a.name c.requires w e.ensures in
    let long = run_length a.settings a.group a.name c.requires w e.ensures in
    let rest : List ℕ = drop (e.result - c.loop-from.from) c.loop-from.list in
    let is = front_is a.set.now _ c.store_starts.new.set rest long c.store_starts.ensures in
    let l = c.loop-from in
    let m = c.convert_item_to_chunks-more in
    let kept = m.ensures.same.lengths in
    let turned = walk_more a.settings a.group a.name c.requires w e.ensures _ is c.row-own.result c.row-own.ensures kept m.ensures.converted in (
      turned,
      list_long a.set.now _ c.store_starts.new.set l.list long c.store_starts.ensures (omega (arith, room, c.requires.few)) l.invariant.1,
      m.auto.members ∙ l.invariant.2,
      still_same l.invariant.3 m.ensures.same,
    )

pub shape_of-members : goal.shape_of-members
shape_of-members c = c.loop-from.invariant.2

pub returns-clause-emitted : goal.returns-clause-emitted
returns-clause-emitted c =
    let a = c.args in
    walk_all a.settings a.group a.name c.requires c.loop-from.invariant.0 c.loop-from-test.false

pub returns-clause-same : goal.returns-clause-same
returns-clause-same c = c.loop-from.invariant.3
