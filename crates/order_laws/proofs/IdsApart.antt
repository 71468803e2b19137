-- Members of the tree of a build that passed the tests have different ids at different places.
use Prim.Native.Nat.{ℕ, ◌<◌}
use mathlib.Core.Bool.{Bool, true, false}
use mathlib.Core.List.{List}
use mathlib.Core.Path.{◌≡◌, refl, sym, ap, ◌∙◌}
use native.Mathlib.Omega.{arith}
use borrow.Author.Tests.{ltb-true, ltb-false}
use lib.Dec.{ltb}
use lib.ListN.{length}
use Rattle.lists.specs.Keep.{keep}
use Rattle.lists.specs.Range.{range}
use Rattle.lists.proofs.Pairs.{pairs_at}
use Rattle.lists.proofs.Rearranged.{sort_perm, perm_pairs}
use Rattle.lists.proofs.Sort.{Pairs, pairs_kept}
use Rattle.ids.specs.Parts.{id_at}
use Rattle.grouping.specs.Given.{Given, is_eligible}
use Rattle.grouping.specs.Tree.{Tree, Member, runs_before, places_of, member_of, tree_of, member_at}
use Rattle.grouping_laws.proofs.Accepted.{eligible_listed}
use Rattle.grouping_laws.proofs.OneId.{one_id}
use Rattle.grouping_laws.proofs.AtPlaces.{tree_length, member_at_lem}
use Rattle.settling.specs.Modules.{Passed, module_at}

-- members of one id stand at one place
abbrev pub IdsApart : Tree → Type 0
IdsApart tree = (p q : ℕ) → p < length tree → q < length tree → (member_at tree p).id ≡ (member_at tree q).id → p ≡ q

module _ (b : Given) where
  -- the stable id of a module
  abbrev pub id_of : ℕ → List ℕ
  id_of = id_at b.shared.bytes b.shared.offsets

  pub id_at_lem : (p : ℕ) → p < length (tree_of b) → (member_at (tree_of b) p).id ≡ id_of (module_at b p)
  unfolding member_of
  id_at_lem p h = ap (λ (m : Member). m.id) (member_at_lem b p (omega (arith, tree_length b)))

  module _ (passed : Passed b) where
    places_apart : Pairs (λ l m. id_of l ≡ id_of m → ⊥) (places_of b)
    unfolding places_of
    places_apart =
        perm_pairs (λ l m ne e. ne (sym e)) (sort_perm (runs_before b) (keep (is_eligible b) (range 0 b.shared.n)))
        (pairs_kept (λ l m. id_of l ≡ id_of m → ⊥) (is_eligible b) 0 b.shared.n
        (λ l m u v f g e.
        omega (arith, one_id b passed.ids_apart l m (omega arith) (omega arith) (eligible_listed b l f) (eligible_listed b m g) e)))

    pub ids_apart : IdsApart (tree_of b)
    ids_apart p q u v e = go (ltb p q) (ltb q p) refl refl
      where
        same : id_of (module_at b p) ≡ id_of (module_at b q)
        same = sym (id_at_lem p u) ∙ e ∙ id_at_lem q v

        go : (s t : Bool) → ltb p q ≡ s → ltb q p ≡ t → p ≡ q
        go true t h k = absurd (pairs_at places_apart p q 0 (ltb-true p q h) (omega (arith, tree_length b)) same)
        go false true h k = absurd (pairs_at places_apart q p 0 (ltb-true q p k) (omega (arith, tree_length b)) (sym same))
        go false false h k = omega (arith, ltb-false p q h, ltb-false q p k)
