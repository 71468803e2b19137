-- `sets::captured::mark_starts` meets its contract: one start more is visited a turn.
use native.Mathlib.Omega.{arith}
use Rattle.sets.proofs.Starts.{some_visited}
use Rattle.sets.proofs.captured.mark_starts.Goals as goal

pub visit-tail-requires : goal.visit-tail-requires
visit-tail-requires c =
    let l = c.loop-start in
    record {
      state = (some_visited c.args.flags.now c.args.starts.now _ _ c.requires.state c.requires.starts_in l.start-index l.invariant.1).state;
      module_in = c.requires.starts_in l.start-index (omega arith);
    }
