-- Another subgroup, and rows of tables that fit.
use Prim.Native.Nat.{ℕ, ◌≤◌, ◌<◌, ◌^◌}
use mathlib.Core.Bool.{Bool, not}
use mathlib.Core.List.{List}
use native.Mathlib.Omega.{arith}
use lib.Dec.{eqb}
use lib.ListN.{length, get_or}
use Rattle.lists.proofs.SumChanged.{one_of_sum}
use Rattle.joins.specs.Subgroup.{Subgroup}
use Rattle.merge.specs.Tables.{Mergeable}
use Rattle.merge.specs.Engine.{InRow}

-- another subgroup than s
abbrev pub other : Subgroup → Subgroup → Bool
other s u = not (eqb u.number s.number)

-- ---- rows of tables that fit

module _ {numbers sizes bits : List ℕ} (m : Mergeable numbers sizes bits) (i : ℕ) (h : i < length numbers) where
  pub in_row : InRow sizes bits i
  in_row = record { has_size = omega (arith, m.sizes_fit); has_bits = omega (arith, m.bits_fit) }

  pub small_size : get_or sizes i 0 ≤ 2 ^ 53
  small_size = omega (arith, one_of_sum sizes i in_row.has_size, m.exact)
