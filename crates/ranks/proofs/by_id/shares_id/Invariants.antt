-- `ranks::by_id::shares_id` meets its contract. The loop's invariant: no neighbours before place i tie.
use Prim.Native.Nat.{◌-◌, ◌≤◌}
use mathlib.Core.Bool.{false}
use mathlib.Core.Path.{◌≡◌}
use lib.ListN.{length}
use Rattle.lists.specs.Below.{any_below}
use Rattle.ranks.specs.ById.{tied_at}
use Rattle.ranks.proofs.by_id.shares_id.Given as goal

abbrev pub invariant-loop-i : goal.invariant-loop-i
invariant-loop-i l = (l.i - 1 ≤ length l.list - 1) × (any_below (tied_at l.ids.bytes.now l.ids.offsets.now l.list) (l.i - 1) ≡ false)
