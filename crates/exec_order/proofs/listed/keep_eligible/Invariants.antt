-- `exec_order::listed::keep_eligible` meets its contract. The loop's invariant: the eligible ones of the first i are kept.
use Prim.Native.Nat.{◌≤◌}
use lib.ListN.{take}
use Rattle.lists.specs.Keep.{keep}
use Rattle.flags.specs.Flags.{eligible_at}
use Rattle.exec_order.specs.Listed.{Kept}
use Rattle.exec_order.proofs.listed.keep_eligible.Given as goal

abbrev pub invariant-loop-m : goal.invariant-loop-m
invariant-loop-m l =
    (l.count ≤ l.m-index) × Kept (keep (eligible_at l.flags) (take l.m-index l.list)) l.count l.initial.order l.order
