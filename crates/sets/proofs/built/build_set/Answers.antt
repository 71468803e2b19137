-- `sets::built::build_set` meets its contract: with recursion off the starts, and else what is marked from them.
use Prim.Native.Nat.{ℕ, ◌≤◌}
use mathlib.Core.Bool.{true, false≢true}
use mathlib.Core.List.{List, ◌++◌, Memᴰ}
use mathlib.Core.Path.{◌≡◌, sym, ap, ◌∙◌, subst}
use native.Mathlib.Omega.{arith}
use borrow.Author.Tests.{eqb-true}
use lib.ListN.{length, get_or, take, drop}
use lib.Seq.{length-take-le}
use Rattle.walk.proofs.MarksUndone.{on_list, list_in, marks_undone}
use Rattle.walk.proofs.Walking.{list_within}
use Rattle.sets.specs.Built.{starts_of}
use Rattle.sets.specs.Captured.{StartsIn, AllCaptured}
use Rattle.sets.specs.Gathered.{marked_in}
use Rattle.sets.proofs.Building.{holds_starts, stored_starts, stored_length, stored_in, front_room}
use Rattle.sets.proofs.FoundAlone.{alone_marked}
use Rattle.sets.proofs.built.build_set.Goals as goal

pub slice_bounds-store_starts-end-2 : goal.slice_bounds-store_starts-end-2
slice_bounds-store_starts-end-2 c =
    let area-fits : length c.args.run.now ≡ length (take (length c.args.run.now) c.args.set.now) =
    sym (length-take-le _ c.args.set.now c.requires.run_room) in
    area-fits

pub store_starts-requires : goal.store_starts-requires
store_starts-requires c =
    let area-fits : length c.args.run.now ≡ length (take (length c.args.run.now) c.args.set.now) =
    sym (length-take-le _ c.args.set.now c.requires.run_room) in
    (c.requires.placed, area-fits)

pub returns-then-not-recursive : goal.returns-then-not-recursive
returns-then-not-recursive c =
    let off = c.if-not-recursive.true in record {
      set_built = record {
        alone = λ _. holds_starts c.args.order.now c.args.run.now _ c.store_starts.ensures;
        captured = λ on. absurd (false≢true (sym off ∙ on));
      };
      marks_after = (c.requires.unmarked, c.requires.clear);
    }

pub slice_bounds-capture_all-end-2 : goal.slice_bounds-capture_all-end-2
slice_bounds-capture_all-end-2 c =
    stored_length c.args.order.now c.args.run.now _ c.store_starts.ensures

pub capture_all-all-requires : goal.capture_all-all-requires
capture_all-all-requires c =
    let inside : StartsIn (take (length c.args.run.now) ((c.store_starts.new.set ++ drop (length c.args.run.now) c.args.set.now))) (length c.args.flags.now) =
    stored_in c.args.order.now c.args.run.now _ c.store_starts.ensures _ c.requires.modules_in c.requires.placed in
    record {
      tables = c.requires.tables;
      starts_in = inside;
      unmarked = c.requires.unmarked;
      room = c.requires.queue_room;
      clear = c.requires.clear;
    }

pub slice_bounds-gather_found-end : goal.slice_bounds-gather_found-end
slice_bounds-gather_found-end c =
    let found-fits : c.capture_all-all.result.found ≤ length c.capture_all-all.new.queue =
    let state = c.capture_all-all.ensures.all_found.state in
    omega (arith, list_within _ _ _ state, state.room) in
    found-fits

pub slice_bounds-gather_found-end-2 : goal.slice_bounds-gather_found-end-2
slice_bounds-gather_found-end-2 c =
    let found-fits : c.capture_all-all.result.found ≤ length c.capture_all-all.new.queue =
    let state = c.capture_all-all.ensures.all_found.state in
    omega (arith, list_within _ _ _ state, state.room) in
    sym (length-take-le _ _ (found-fits))

pub slice_bounds-store_bytes-end : goal.slice_bounds-store_bytes-end
slice_bounds-store_bytes-end c =
    let found-fits : c.capture_all-all.result.found ≤ length c.capture_all-all.new.queue =
    let state = c.capture_all-all.ensures.all_found.state in
    omega (arith, list_within _ _ _ state, state.room) in
    found-fits

pub slice_bounds-store_bytes-end-2 : goal.slice_bounds-store_bytes-end-2
slice_bounds-store_bytes-end-2 c =
    let found-fits : c.capture_all-all.result.found ≤ length c.capture_all-all.new.queue =
    let state = c.capture_all-all.ensures.all_found.state in
    omega (arith, list_within _ _ _ state, state.room) in
    sym (length-take-le _ _ (found-fits))

pub store_bytes-requires : goal.store_bytes-requires
store_bytes-requires c =
    let found-fits : c.capture_all-all.result.found ≤ length c.capture_all-all.new.queue =
    let state = c.capture_all-all.ensures.all_found.state in
    omega (arith, list_within _ _ _ state, state.room) in
    let state = c.capture_all-all.ensures.all_found.state in
    λ i h. omega (arith, list_in state (found-fits) i h, state.mark_bytes)

pub gather_found-size-requires : goal.gather_found-size-requires
gather_found-size-requires c =
    let found-fits : c.capture_all-all.result.found ≤ length c.capture_all-all.new.queue =
    let state = c.capture_all-all.ensures.all_found.state in
    omega (arith, list_within _ _ _ state, state.room) in
    let inside : StartsIn (take (length c.args.run.now) ((c.store_starts.new.set ++ drop (length c.args.run.now) c.args.set.now))) (length c.args.flags.now) =
    stored_in c.args.order.now c.args.run.now _ c.store_starts.ensures _ c.requires.modules_in c.requires.placed in
    let stored : take (length c.args.run.now) ((c.store_starts.new.set ++ drop (length c.args.run.now) c.args.set.now)) ≡ starts_of c.args.order.now c.args.run.now =
    stored_starts c.args.order.now c.args.run.now _ c.store_starts.ensures in
    let state = c.capture_all-all.ensures.all_found.state in
    let order = c.args.order.now in
    let run = c.args.run.now in (
      record {
        few = c.requires.few;
        places = c.requires.places;
        has_place = λ i h. omega (arith, list_in state (found-fits) i h, c.requires.place_room);
        has_mark = λ i h. omega (arith, c.requires.modules_in i h, state.mark_bytes);
        listed = λ i h e. on_list state (found-fits) (get_or order i 0) (c.requires.modules_in i h) e;
        room = front_room c.args.set.now c.store_starts.new.set (length c.args.run.now) c.store_starts.auto.set c.requires.room;
      },
      record {
        fits = front_room c.args.set.now c.store_starts.new.set (length c.args.run.now) c.store_starts.auto.set c.requires.run_room;
        has_mark = λ i h. omega (arith, inside i h, state.mark_bytes);
        same = λ alone.
            ap (marked_in ((c.capture_all-all.new.marks))) (stored)
            ∙ alone_marked order c.args.place.now run ((c.capture_all-all.new.marks)) c.requires.places c.requires.placed c.requires.rising (λ i h e.
            subst (λ (l : List ℕ). Memᴰ (get_or order i 0) l) (stored)
            (c.capture_all-all.ensures.all_found.alone (eqb-true _ _ alone) (get_or order i 0) (c.requires.modules_in i h) e));
      },
    )

pub returns : goal.returns
returns c =
    let recursion-on : c.args.recursive ≡ true =
    c.if-not-recursive.false in
    let stored : take (length c.args.run.now) ((c.store_starts.new.set ++ drop (length c.args.run.now) c.args.set.now)) ≡ starts_of c.args.order.now c.args.run.now =
    stored_starts c.args.order.now c.args.run.now _ c.store_starts.ensures in
    let found-fits : c.capture_all-all.result.found ≤ length c.capture_all-all.new.queue =
    let state = c.capture_all-all.ensures.all_found.state in
    omega (arith, list_within _ _ _ state, state.room) in
    let a = c.args in record {
      set_built = record {
        alone = λ off. absurd (false≢true (sym off ∙ recursion-on));
        captured = λ _.
            record {
              marks = (c.capture_all-all.new.marks);
              marked =
                  subst (λ (l : List ℕ). AllCaptured a.flags.now a.records.now.first.now a.records.now.dependency.now a.records.now.next.now l ((c.capture_all-all.new.marks)))
                  (stored) c.capture_all-all.ensures.all_found.captured;
              holds = c.gather_found-size.ensures;
            };
      };
      marks_after = (c.store_bytes.ensures ∙ marks_undone c.capture_all-all.ensures.all_found.state (found-fits), c.capture_all-all.ensures.followed_after);
    }
