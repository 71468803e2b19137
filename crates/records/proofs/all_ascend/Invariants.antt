-- `records::all_ascend` meets its contract. The loop's invariant: whether the records before r ascend.
use Prim.Native.Nat.{ℕ, suc, ◌-◌}
use mathlib.Core.Bool.{Bool, ◌||◌}
use mathlib.Core.List.{List}
use mathlib.Core.Path.{◌≡◌}
use lib.Dec.{eqb, ltb}
use lib.ListN.{get_or}
use Rattle.lists.specs.Below.{all_below}
use Rattle.records.proofs.all_ascend.Given as goal

-- whether record r ascends
abbrev pub ascends : List ℕ → ℕ → Bool
ascends next r = eqb (get_or next r 0) 0 || ltb r (get_or next r 0)

abbrev pub invariant-loop-r : goal.invariant-loop-r
invariant-loop-r l = l.all ≡ all_below (λ k. ascends l.next (suc k)) (l.r - 1)
