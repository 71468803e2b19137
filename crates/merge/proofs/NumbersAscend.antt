-- Numbers that ascend through a merge: a join takes a subgroup away and keeps the numbers and the order of the others.
use Prim.Native.Nat.{ℕ, ◌<◌}
use mathlib.Core.Bool.{Bool, true, false, cond, not}
use mathlib.Core.List.{List}
use mathlib.Core.Path.{◌≡◌, refl, sym, subst₂}
use borrow.Author.Tests.{eqb-true}
use lib.Dec.{eqb}
use lib.Ieee.{Float}
use Rattle.lists.proofs.Pairs.{pairs_keep}
use Rattle.lists.proofs.Sort.{Pairs, pairs_map}
use Rattle.joins.specs.Subgroup.{Subgroup, united}
use Rattle.merge.specs.Merge.{Merging, others, joined, merged}
use Rattle.merge.proofs.Invariants.{merged_keeps}

abbrev pub Lower : Subgroup → Subgroup → Type 0
Lower s t = s.number < t.number

abbrev pub Ascending : List Subgroup → Type 0
Ascending there = Pairs Lower there

-- the one that is joined keeps its number
pub become_number : (s t u : Subgroup) → (cond (eqb u.number t.number) (united s t) u).number ≡ u.number
unfolding united
become_number s t u = go (eqb u.number t.number) refl
  where
    go : (c : Bool) → eqb u.number t.number ≡ c → (cond c (united s t) u).number ≡ u.number
    go true e = sym (eqb-true u.number t.number e)
    go false e = refl

joined_ascends : (s t : Subgroup) (m : Merging) → Ascending m.there → Ascending (joined s t m).there
unfolding joined others
joined_ascends s t m h =
    pairs_map Lower Lower (λ u. cond (eqb u.number t.number) (united s t) u)
    (λ u v i j l. subst₂ (λ (a b : ℕ). a < b) (sym (become_number s t u)) (sym (become_number s t v)) l)
    (pairs_keep (λ u. not (eqb u.number s.number)) h)

pub merged_ascends : (threshold : Float) (m : Merging) → Ascending m.there → Ascending (merged threshold m).there
merged_ascends = merged_keeps (λ (m : Merging). Ascending m.there) (λ s t m i j h. joined_ascends s t m h)
