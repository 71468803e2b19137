-- Normal included modules of one id are one module, in a build that passed condition 4.
use Prim.Native.Nat.{ℕ, ◌<◌}
use mathlib.Core.Bool.{Bool, true, false, true≢false}
use mathlib.Core.List.{List, [], ◌∷◌}
use mathlib.Core.Path.{◌≡◌, refl, sym, ap, ◌∙◌}
use native.Mathlib.Omega.{arith}
use borrow.Author.Tests.{ltb-true, ltb-false, eq-eqb}
use lib.Dec.{ltb}
use Rattle.lists.specs.Same.{same_numbers}
use Rattle.ids.specs.Parts.{id_at}
use Rattle.grouping.specs.Given.{Given, is_listed}
use Rattle.grouping.specs.Conditions.{shared_id}
use Rattle.grouping_laws.proofs.Accepted.{two_apart}

same_self : (l : List ℕ) → same_numbers l l ≡ true
unfolding same_numbers
same_self [] = refl
same_self (a ∷ l) = rw (eq-eqb a a refl) (same_self l)

module _ (b : Given) (passed : shared_id b ≡ false) where
  -- the stable id of a module
  abbrev id : ℕ → List ℕ
  id = id_at b.shared.bytes b.shared.offsets

  ids_apart : (l m : ℕ) → l < m → m < b.shared.n → is_listed b l ≡ true → is_listed b m ≡ true → id l ≡ id m → ⊥
  unfolding shared_id
  ids_apart l m u v f g e =
      let differ : same_numbers (id l) (id m) ≡ false = two_apart b (λ l m. same_numbers (id l) (id m)) passed l m u v f g in
      true≢false (sym (same_self (id m)) ∙ ap (λ (x : List ℕ). same_numbers x (id m)) (sym e) ∙ differ)

  pub one_id : (l m : ℕ) → l < b.shared.n → m < b.shared.n → is_listed b l ≡ true → is_listed b m ≡ true
      → id_at b.shared.bytes b.shared.offsets l ≡ id_at b.shared.bytes b.shared.offsets m → l ≡ m
  one_id l m u v f g e = go (ltb l m) (ltb m l) refl refl
    where
      go : (x y : Bool) → ltb l m ≡ x → ltb m l ≡ y → l ≡ m
      go true y p q = absurd (ids_apart l m (ltb-true l m p) v f g e)
      go false true p q = absurd (ids_apart m l (ltb-true m l q) u g f (sym e))
      go false false p q = omega (arith, ltb-false l m p, ltb-false m l q)
