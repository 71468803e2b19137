-- `sets::captured::mark_starts` meets its contract: one start more is visited a turn.
use Prim.Native.Nat.{◌≤◌}
use mathlib.Core.List.{foldl}
use mathlib.Core.Path.{◌≡◌}
use lib.ListN.{length, take}
use Rattle.walk.specs.Walk.{visited}
use Rattle.sets.proofs.captured.mark_starts.Given as goal

abbrev pub invariant-loop-start : goal.invariant-loop-start
invariant-loop-start l =
    (l.start-index ≤ length l.starts)
    × (foldl (visited l.flags) (record { marks = l.initial.marks; queue = l.initial.queue; tail = 0 }) (take l.start-index l.starts) ≡ record { marks = l.marks; queue = l.queue; tail = l.tail })
