-- `records::bad_record` meets its contract. The loop's invariant: whether some record before r has a next or a module out of range.
use Prim.Native.Nat.{ℕ, suc, ◌-◌}
use mathlib.Core.Bool.{Bool, ◌||◌}
use mathlib.Core.List.{List}
use mathlib.Core.Path.{◌≡◌}
use lib.Dec.{ltb, leb}
use lib.ListN.{get_or}
use Rattle.lists.specs.Below.{any_below}
use Rattle.records.proofs.bad_record.Given as goal

-- whether record r is bad
abbrev pub beyond : List ℕ → List ℕ → ℕ → ℕ → ℕ → Bool
beyond dependency next n d r = ltb d (get_or next r 0) || leb n (get_or dependency r 0)

abbrev pub invariant-loop-r : goal.invariant-loop-r
invariant-loop-r l = l.bad ≡ any_below (λ k. beyond l.dependency l.next l.n l.d (suc k)) (l.r - 1)
