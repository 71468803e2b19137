-- What holds of the bits of every subgroup, and is kept when bits unite, holds of the bits of every subgroup that a merge leaves.
use mathlib.Core.Bool.{cond, not}
use mathlib.Core.List.Memᴰ
use mathlib.Core.List.{List, Memᴰ}
use mathlib.Core.Path.{subst}
use lib.Dec.{eqb}
use lib.Ieee.{Float}
use Rattle.lists.proofs.Least.{cond_holds}
use Rattle.lists.proofs.Members.{keep_mem}
use Rattle.bitset.specs.Entries.{union_of}
use Rattle.bitset.specs.declared.entries.BitSet.{BitSet}
use Rattle.joins.specs.Subgroup.{Subgroup, united}
use Rattle.merge.specs.Merge.{Merging, others, joined, merged}
use Rattle.merge.proofs.Invariants.{merged_keeps}

-- it holds of the bits of every subgroup of a list
abbrev pub Held : (BitSet → Type 0) → List Subgroup → Type 0
Held P l = (s : Subgroup) → Memᴰ s l → P s.bits

module _ (P : BitSet → Type 0) (unite : (x y : BitSet) → P x → P y → P (union_of x y)) where
  abbrev Of : Subgroup → Type 0
  Of s = P s.bits

  others_held : (s : Subgroup) (there : List Subgroup) → Held P there → Held P (others s there)
  unfolding others
  others_held s there h t m = h t (keep_mem (λ u. not (eqb u.number s.number)) there t m).0

  joined_held : (s t : Subgroup) (m : Merging) → P s.bits → P t.bits → Held P m.there → Held P (joined s t m).there
  unfolding joined united
  joined_held s t m p q h u i =
      let o = Memᴰ.of_map (λ v. cond (eqb v.number t.number) (united s t) v) (others s m.there) i in
      subst Of o.2
      (cond_holds Of (eqb o.0.number t.number) (united s t) o.0 (unite t.bits s.bits q p) (others_held s m.there h o.0 o.1))

  pub merged_held : (threshold : Float) (m : Merging) → Held P m.there → Held P (merged threshold m).there
  merged_held =
      merged_keeps (λ (m : Merging). Held P m.there)
      (λ s t m i j h. joined_held s t m (h s i) (others_held s m.there h t j) h)
