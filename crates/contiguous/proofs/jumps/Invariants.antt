-- `contiguous::jumps` meets its contract. The loop's invariant: how many of the records passed are followed by another than their neighbour.
use Prim.Native.Nat.{ℕ, suc, ◌≤◌}
use mathlib.Core.Bool.{Bool}
use mathlib.Core.List.{List}
use mathlib.Core.Path.{◌≡◌}
use lib.ListN.{get_or}
use Rattle.lists.specs.Below.{count_below}
use Rattle.contiguous.specs.Jumps.{is_jump}
use Rattle.contiguous.proofs.jumps.Given as goal

-- whether record k + 1 is
abbrev pub jumpAt : List ℕ → ℕ → Bool
jumpAt next k = is_jump (suc k) (get_or next (suc k) 0)

abbrev pub invariant-loop-i : goal.invariant-loop-i
invariant-loop-i l = (l.count ≤ l.i) × (l.count ≡ count_below (jumpAt l.next) l.i)
