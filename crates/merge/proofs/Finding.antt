-- What the two searches find among the candidates of a list is what the definition finds among the subgroups that are there.
use Prim.Native.Nat.{ℕ}
use mathlib.Core.List.{List, map, map-map}
use mathlib.Core.Option
use mathlib.Core.Option.{Option, none, some}
use mathlib.Core.Path.{◌≡◌, refl, sym, ap, ◌∙◌}
use native.Mathlib.Omega.{arith}
use lib.Ieee.{Float}
use Rattle.lists.specs.Keep.{keep}
use Rattle.lists.specs.Least.{least}
use Rattle.bitset.specs.Entries.{differing}
use Rattle.joins.specs.Subgroup.{Subgroup, seeks, smaller, nearer}
use Rattle.joins.specs.Candidate.{seeking, comes_first, seeker_at, target_at}
use Rattle.joins.specs.declared.candidate.Candidate.{Candidate}
use Rattle.merge.specs.Merge.{others}
use Rattle.merge.specs.Tables.{subgroup_at}
use Rattle.merge.specs.Engine.{listed, there_in, Standing}
use Rattle.lists.proofs.KeepTests.{keep_map}
use Rattle.seeking.proofs.Least.{least_map}
use Rattle.seeking.proofs.Removing.{but_one}
use Rattle.merge.proofs.Next.{seeker_is, target_is, standing}
use Rattle.merge.proofs.There.{other}

-- what a search keeps of a subgroup that is that far from the seeker
candidate : (Subgroup → ℕ) → Subgroup → Candidate
candidate far u = record { number = u.number; size = u.size; distance = far u }

module _ (sizes bits : List ℕ) where
  -- the subgroup of the number that was found, if its row is what it is
  of_some : (far : Subgroup → ℕ) (o : Option Subgroup) (c : Candidate) → Option.map (candidate far) o ≡ some c
      → ((u : Subgroup) → o ≡ some u → u ≡ subgroup_at sizes bits u.number) → o ≡ some (subgroup_at sizes bits c.number)
  unfolding candidate
  of_some far none c e is = absurd (let z : ◌≡◌ {A = ℕ} 0 1 = cc in omega arith)
  of_some far (some u) c e is =
      let same : candidate far u ≡ c = cc in
      ap some (is u refl ∙ ap (λ (d : Candidate). subgroup_at sizes bits d.number) same)

  of_none : (far : Subgroup → ℕ) (o : Option Subgroup) → Option.map (candidate far) o ≡ none → o ≡ none
  of_none far none e = refl
  of_none far (some u) e = absurd (let z : ◌≡◌ {A = ℕ} 0 1 = cc in omega arith)

  module _ (numbers : List ℕ) where
    -- ---- the seeker

    module _ (threshold : Float) where
      seekers : least comes_first (keep (seeking threshold) (map (seeker_at sizes) (listed numbers)))
          ≡ Option.map (candidate (λ u. 0)) (least smaller (keep (seeks threshold) (there_in numbers sizes bits)))
      unfolding candidate seeker_at there_in listed subgroup_at seeking seeks comes_first smaller
      seekers =
          ap (λ l. least comes_first (keep (seeking threshold) l)) (sym (map-map (candidate (λ u. 0)) (subgroup_at sizes bits) (listed numbers)))
          ∙ ap (least comes_first) (keep_map (seeking threshold) (candidate (λ u. 0)) (there_in numbers sizes bits))
          ∙ least_map smaller comes_first (candidate (λ u. 0)) (λ x y. refl) (keep (seeks threshold) (there_in numbers sizes bits))

      pub seeker_found : (c : Candidate) → least comes_first (keep (seeking threshold) (map (seeker_at sizes) (listed numbers))) ≡ some c
          → least smaller (keep (seeks threshold) (there_in numbers sizes bits)) ≡ some (subgroup_at sizes bits c.number)
      seeker_found c e =
          of_some (λ u. 0) (least smaller (keep (seeks threshold) (there_in numbers sizes bits))) c (sym seekers ∙ e)
          (λ u q. (seeker_is threshold (there_in numbers sizes bits) u q (Standing numbers sizes bits) (standing numbers sizes bits)).0.is)

      pub no_seeker_found : least comes_first (keep (seeking threshold) (map (seeker_at sizes) (listed numbers))) ≡ none
          → least smaller (keep (seeks threshold) (there_in numbers sizes bits)) ≡ none
      no_seeker_found e = of_none (λ u. 0) (least smaller (keep (seeks threshold) (there_in numbers sizes bits))) (sym seekers ∙ e)

      -- ---- the target of a seeker s

      module _ (s : Subgroup) (is-s : least smaller (keep (seeks threshold) (there_in numbers sizes bits)) ≡ some s) where
        far : Subgroup → ℕ
        far u = differing s.bits u.bits

        targets : least comes_first (map (target_at sizes bits s.bits) (but_one s.number (listed numbers)))
            ≡ Option.map (candidate far) (least (nearer s) (others s (there_in numbers sizes bits)))
        unfolding candidate far target_at there_in listed subgroup_at others comes_first smaller nearer
        targets =
            ap (least comes_first) (sym (map-map (candidate far) (subgroup_at sizes bits) (but_one s.number (listed numbers))))
            ∙ ap (λ l. least comes_first (map (candidate far) l)) (sym (keep_map (other s) (subgroup_at sizes bits) (listed numbers)))
            ∙ least_map (nearer s) comes_first (candidate far) (λ x y. refl) (others s (there_in numbers sizes bits))

        pub target_found : (c : Candidate) → least comes_first (map (target_at sizes bits s.bits) (but_one s.number (listed numbers))) ≡ some c
            → least (nearer s) (others s (there_in numbers sizes bits)) ≡ some (subgroup_at sizes bits c.number)
        target_found c e =
            of_some far (least (nearer s) (others s (there_in numbers sizes bits))) c (sym targets ∙ e)
            (λ u q. (target_is threshold (there_in numbers sizes bits) s is-s u q (Standing numbers sizes bits) (standing numbers sizes bits)).0.is)

        pub no_target_found : least comes_first (map (target_at sizes bits s.bits) (but_one s.number (listed numbers))) ≡ none
            → least (nearer s) (others s (there_in numbers sizes bits)) ≡ none
        no_target_found e = of_none far (least (nearer s) (others s (there_in numbers sizes bits))) (sym targets ∙ e)
