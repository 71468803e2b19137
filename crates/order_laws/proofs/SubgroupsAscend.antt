-- The numbers of the subgroups of a set that are still there after the merge ascend: before it they are 0, 1, 2 and so on.
use Prim.Native.Nat.{ℕ, suc, ◌≤◌}
use mathlib.Core.List.Memᴰ
use mathlib.Core.List.{List, [], ◌∷◌, Memᴰ}
use mathlib.Core.Logic.{⊎_elim}
use mathlib.Core.Path.{ap}
use native.Mathlib.Omega.{arith}
use lib.ListN.{length}
use Rattle.lists.specs.Range.{range}
use Rattle.lists.proofs.Sort.{none, more}
use Rattle.bitset.specs.declared.entries.BitSet.{BitSet}
use Rattle.joins.specs.Subgroup.{Subgroup}
use Rattle.merge.proofs.NumbersAscend.{Ascending, merged_ascends}
use Rattle.options.specs.declared.Settings.{Settings}
use Rattle.grouping.specs.Tree.{Tree}
use Rattle.grouping.specs.Subgroups.{subgroups_from, merged_subgroups}

module _ (r : Settings) (tree : Tree) (places : List ℕ) where
  from_least : (i : ℕ) (kinds : List BitSet) (s : Subgroup) → Memᴰ s (subgroups_from i r tree places kinds) → i ≤ s.number
  unfolding subgroups_from
  from_least i [] s m = absurd (Memᴰ.not-nil m)
  from_least i (kind ∷ kinds) s m =
      ⊎_elim
      (λ e. omega (arith, ap (λ (u : Subgroup). u.number) e))
      (λ t. omega (arith, from_least (suc i) kinds s t))
      (Memᴰ.cases_cons m)

  from_ascends : (i : ℕ) (kinds : List BitSet) → Ascending (subgroups_from i r tree places kinds)
  unfolding subgroups_from
  from_ascends i [] = none
  from_ascends i (kind ∷ kinds) = more (from_least (suc i) kinds) (from_ascends (suc i) kinds)

  pub there_ascends : (kinds : List BitSet) → Ascending (merged_subgroups r tree places kinds).there
  unfolding merged_subgroups
  there_ascends kinds =
      merged_ascends r.threshold (record { there = subgroups_from 0 r tree places kinds; finals = range 0 (length kinds) }) (from_ascends 0 kinds)
