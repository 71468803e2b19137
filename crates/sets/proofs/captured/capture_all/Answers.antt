-- `sets::captured::capture_all` meets its contract: with the starts visited it is a walk from what is marked.
use Rattle.sets.proofs.Starts.{cleared_state, starts_state, starts_captured, starts_alone}
use Rattle.sets.proofs.captured.capture_all.Goals as goal

pub mark_starts-started-requires : goal.mark_starts-started-requires
mark_starts-started-requires c =
    record { state = cleared_state c.args.flags.now c.args.queue.now _ _ c.requires.unmarked c.requires.room; starts_in = c.requires.starts_in }

pub walk-found-requires : goal.walk-found-requires
walk-found-requires c =
    let a = c.args in
    record {
      tables = c.requires.tables;
      state = starts_state a.flags.now a.queue.now _ _ c.requires.unmarked c.requires.room a.starts.now c.requires.starts_in
          c.mark_starts-started.ensures;
      clear = c.requires.clear;
    }

pub returns : goal.returns
returns c =
    let a = c.args in record {
      all_found = record {
        captured = starts_captured a.flags.now a.queue.now _ _ c.requires.unmarked c.requires.room a.starts.now c.requires.starts_in
            c.mark_starts-started.ensures a.records.now.first.now a.records.now.dependency.now a.records.now.next.now _ c.walk-found.ensures.walked.marked;
        state = c.walk-found.ensures.walked.state;
        alone = starts_alone a.flags.now a.queue.now _ _ c.requires.unmarked c.requires.room a.starts.now c.requires.starts_in
            c.mark_starts-started.ensures a.records.now.first.now a.records.now.dependency.now a.records.now.next.now _ c.walk-found.ensures.walked.state c.walk-found.ensures.walked.marked;
      };
      followed_after = c.walk-found.ensures.followed_after;
    }
