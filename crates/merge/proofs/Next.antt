-- The two searches find the next join of the definition, of two subgroups that are still there.
use Prim.Native.Nat.{ℕ}
use mathlib.Core.Bool.{true}
use mathlib.Core.List.{List}
use mathlib.Core.Option.{none, some}
use mathlib.Core.Path.{◌≡◌, refl, ap, ◌∙◌}
use native.Mathlib.Omega.{arith}
use borrow.Author.Tests.{not-true, eqb-false}
use lib.Dec.{eqb}
use lib.Ieee.{Float}
use lib.ListN.{length}
use Rattle.lists.specs.Keep.{keep}
use Rattle.lists.specs.Least.{least}
use Rattle.lists.proofs.Keep.{Each}
use Rattle.joins.specs.Subgroup.{Subgroup, seeks, smaller, nearer}
use Rattle.seeking.proofs.Least.{least_each}
use Rattle.seeking.proofs.Kept.{each_there, kept_passes}
use Rattle.merge.specs.Merge.{stop, joins, others, join_of, join_for, next_join}
use Rattle.merge.specs.Tables.{subgroup_at, Mergeable}
use Rattle.merge.specs.Engine.{is_there, there_in, Standing, Joinable}
use Rattle.merge.proofs.There.{other}

-- ---- what the next join is

module _ (threshold : Float) (there : List Subgroup) where
  pub no_seeker : least smaller (keep (seeks threshold) there) ≡ none → next_join threshold there ≡ stop
  unfolding next_join
  no_seeker e = ap (join_for there) e

  module _ (s : Subgroup) (e : least smaller (keep (seeks threshold) there) ≡ some s) where
    pub no_target : least (nearer s) (others s there) ≡ none → next_join threshold there ≡ stop
    unfolding next_join
    no_target q = ap (join_for there) e ∙ ap (join_of s) q

    pub next_join_lem : (t : Subgroup) → least (nearer s) (others s there) ≡ some t → next_join threshold there ≡ joins s t
    unfolding next_join
    next_join_lem t q = ap (join_for there) e ∙ ap (join_of s) q

-- ---- who joins whom

module _ (threshold : Float) (there : List Subgroup) (s : Subgroup) (e : least smaller (keep (seeks threshold) there) ≡ some s) where
  -- what holds of each subgroup that is there holds of the seeker, which seeks
  pub seeker_is : (P : Subgroup → Type 0) → Each P there → P s × (seeks threshold s ≡ true)
  seeker_is P r = least_each smaller (λ u. P u × (seeks threshold u ≡ true)) (keep (seeks threshold) there) s (kept_passes P (seeks threshold) r) e

  -- and of the target, which is another
  pub target_is : (t : Subgroup) → least (nearer s) (others s there) ≡ some t → (P : Subgroup → Type 0) → Each P there → P t × (other s t ≡ true)
  unfolding others
  target_is t q P r = least_each (nearer s) (λ u. P u × (other s u ≡ true)) (others s there) t (kept_passes P (other s) r) q

module _ (numbers sizes bits : List ℕ) where
  pub standing : Each (Standing numbers sizes bits) (there_in numbers sizes bits)
  unfolding there_in subgroup_at
  standing =
      each_there (Standing numbers sizes bits) (subgroup_at sizes bits) (is_there numbers) 0 (length numbers)
      (λ i l u e. record { inside = omega arith; still = e; is = refl })

  pub can_join : (threshold : Float) (s t : Subgroup) → Mergeable numbers sizes bits → least smaller (keep (seeks threshold) (there_in numbers sizes bits)) ≡ some s
      → least (nearer s) (others s (there_in numbers sizes bits)) ≡ some t → Joinable s t numbers sizes bits
  can_join threshold s t m e q =
      let to = target_is threshold (there_in numbers sizes bits) s e t q (Standing numbers sizes bits) standing in
      record {
        tables = m;
        seeker = (seeker_is threshold (there_in numbers sizes bits) s e (Standing numbers sizes bits) standing).0;
        target = to.0;
        apart = eqb-false t.number s.number (not-true (eqb t.number s.number) to.1);
      }
