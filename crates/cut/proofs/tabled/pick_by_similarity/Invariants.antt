-- `cut::tabled::pick_by_similarity` meets its contract. The loop's invariant: the best is that of the places before i, as the tables have them.
use Prim.Native.Nat.{◌-◌, ◌≤◌}
use mathlib.Core.List.{foldl, map}
use mathlib.Core.Path.{◌≡◌}
use lib.ListN.{length}
use Rattle.lists.specs.Range.{range}
use Rattle.cut.specs.Scan.{considered}
use Rattle.std.specs.Prelude.{None}
use Rattle.cut.proofs.FromTables.{candidate_from}
use Rattle.cut.proofs.tabled.pick_by_similarity.Given as goal

abbrev pub invariant-loop-i : goal.invariant-loop-i
invariant-loop-i l =
    (1 ≤ l.i)
    × (l.i - 1 ≤ length l.similar - 1)
    × (l.best ≡ foldl (considered l.bounds) None (map (candidate_from l.similar l.sums l.total) (range 1 (l.i - 1))))
