-- `closed::some_left` meets its contract. The loop's invariant: each module before i has a chunk.
use Prim.Native.Nat.{◌≤◌}
use mathlib.Core.Bool.{false}
use mathlib.Core.Path.{◌≡◌}
use lib.ListN.{length}
use Rattle.lists.specs.Below.{any_below}
use Rattle.closed.specs.Closed.{left_at}
use Rattle.closed.proofs.some_left.Given as goal

abbrev pub invariant-loop-module : goal.invariant-loop-module
invariant-loop-module l = (l.module-index ≤ length l.set) × (any_below (left_at l.chunk_of l.set) l.module-index ≡ false)
