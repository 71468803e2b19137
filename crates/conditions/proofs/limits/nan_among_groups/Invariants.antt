-- `conditions::limits::nan_among_groups` meets its contract. The loop's invariant: no group passed has a NaN.
use Prim.Native.Nat.{ℕ, ◌≤◌, ◌<◌}
use mathlib.Core.Path.{◌≡◌}
use mathlib.Core.Bool.{false}
use Rattle.options.specs.Tables.{group_at, tables_of}
use Rattle.options.specs.Nan.{nan_group}
use Rattle.conditions.proofs.limits.nan_among_groups.Given as goal

abbrev pub invariant-loop-i : goal.invariant-loop-i
invariant-loop-i l =
    (l.i ≤ l.g) × ((j : ℕ) → j < l.i → nan_group (group_at (tables_of l.groups) j) ≡ false)
