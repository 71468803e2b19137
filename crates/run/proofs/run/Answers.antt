-- `run::run` meets its contract: the eligible modules are kept, the chunks made over them, and the chains written.
use mathlib.Core.Path.{sym}
use native.Mathlib.Omega.{arith}
use lib.Seq.{length-take-le}
use Rattle.run.proofs.OverPlaces.{run_chosen, run_count, run_places, run_room}
use Rattle.run.proofs.Finishing.{run_finishing, run_ran}
use Rattle.run.proofs.run.Goals as goal

pub keep_eligible-count-requires : goal.keep_eligible-count-requires
keep_eligible-count-requires c = run_chosen c.requires.b _ _ c.requires.fits (omega arith)

pub slice_bounds-order-end : goal.slice_bounds-order-end
slice_bounds-order-end c = run_count c.requires.b _ _ c.requires.fits c.keep_eligible-count.ensures (omega arith)

pub slice_bounds-make_chunks-end : goal.slice_bounds-make_chunks-end
slice_bounds-make_chunks-end c =
    sym (length-take-le c.keep_eligible-count.result c.keep_eligible-count.new.order
    (run_count c.requires.b _ _ c.requires.fits c.keep_eligible-count.ensures (omega arith)))

pub make_chunks-made-requires : goal.make_chunks-made-requires
make_chunks-made-requires c =
    record {
      b = c.requires.b;
      fits = run_places c.requires.b _ _ c.requires.fits c.keep_eligible-count.ensures;
      small = c.requires.small;
      room = run_room c.requires.b _ _ _ _ c.requires.fits c.requires.room;
      work = omega (arith, c.requires.room.work);
    }

pub slice_bounds-order-end-2 : goal.slice_bounds-order-end-2
slice_bounds-order-end-2 c = run_count c.requires.b _ _ c.requires.fits c.keep_eligible-count.ensures (omega arith)

pub slice_bounds-finish-end : goal.slice_bounds-finish-end
slice_bounds-finish-end c =
    sym (length-take-le c.keep_eligible-count.result c.keep_eligible-count.new.order
    (run_count c.requires.b _ _ c.requires.fits c.keep_eligible-count.ensures (omega arith)))

pub finish-requires : goal.finish-requires
finish-requires c =
    let b = c.requires.b in
    let fits = run_places b _ _ c.requires.fits c.keep_eligible-count.ensures in
    let room = run_room b _ _ _ _ c.requires.fits c.requires.room in
    run_finishing b _ _ _ _ fits c.requires.room _ _ (c.make_chunks-made.ensures.emitted.of_build b fits room)

pub returns-clause-written : goal.returns-clause-written
returns-clause-written c =
    record {
      of_build = λ b fits.
          let placed = run_places b _ _ fits c.keep_eligible-count.ensures in
          let room = run_room b _ _ _ _ fits c.requires.room in
          run_ran b _ _ _ _ placed c.requires.room _ _ (c.make_chunks-made.ensures.emitted.of_build b placed room) _ _ _ c.make_chunks-made.auto.scratch
          c.finish.ensures;
    }
