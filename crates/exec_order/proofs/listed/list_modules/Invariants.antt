-- `exec_order::listed::list_modules` meets its contract. The loop's invariant: the listed modules below m are kept.
use Prim.Native.Nat.{◌≤◌}
use lib.ListN.{get_or}
use Rattle.lists.specs.Keep.{keep}
use Rattle.lists.specs.Range.{range}
use Rattle.flags.specs.Flags.{listed}
use Rattle.exec_order.specs.Listed.{Kept}
use Rattle.exec_order.proofs.listed.list_modules.Given as goal

abbrev pub invariant-loop-m : goal.invariant-loop-m
invariant-loop-m l =
    (l.count ≤ l.m) × Kept (keep (λ k. listed (get_or l.flags k 0)) (range 0 l.m)) l.count l.initial.list l.list
