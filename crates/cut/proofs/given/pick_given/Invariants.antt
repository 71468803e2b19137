-- `cut::given::pick_given` meets its contract. The loop's invariant: the left total is that of the sizes before place i, and the best is that of
-- the places before it.
use Prim.Native.Nat.{◌-◌, ◌≤◌}
use mathlib.Core.List.{foldl, map}
use mathlib.Core.Path.{◌≡◌}
use lib.ListN.{length, take}
use Rattle.lists.specs.Range.{range}
use Rattle.whole.specs.Double.{sum_f64}
use Rattle.ids.specs.Parts.{ids_of}
use Rattle.cut.specs.Candidate.{candidate_at}
use Rattle.cut.specs.Scan.{considered}
use Rattle.std.specs.Prelude.{None}
use Rattle.cut.proofs.given.pick_given.Given as goal

abbrev pub invariant-loop-i : goal.invariant-loop-i
invariant-loop-i l =
    (1 ≤ l.i)
    × (l.i - 1 ≤ length l.sizes - 1)
    × (l.left ≡ sum_f64 (take (l.i - 1) l.sizes))
    × (l.best ≡ foldl (considered l.bounds) None (map (candidate_at (ids_of (length l.sizes) l.ids.bytes.now l.ids.offsets.now) l.sizes) (range 1 (l.i - 1))))
