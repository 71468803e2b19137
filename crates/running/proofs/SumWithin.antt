-- Distinct numbers that stand in a list add up, by any measure, to at most what the list does.
use Prim.Native.Nat.{ℕ, ◌+◌, ◌≤◌}
use mathlib.Core.Bool.{Bool, true, false, not, false≢true}
use mathlib.Core.List.Memᴰ
use mathlib.Core.List.{List, [], ◌∷◌, map, Memᴰ}
use mathlib.Core.Logic.{⊎_elim}
use mathlib.Core.Path.{◌≡◌, refl, sym, ap, ◌∙◌}
use native.Mathlib.Omega.{arith}
use borrow.Author.Tests.{eqb-true, eq-eqb, ne_eqb}
use lib.Dec.{eqb}
use Rattle.lists.specs.Keep.{keep, keep_head}
use Rattle.lists.specs.Sum.{sum}
use Rattle.lists.proofs.Distinct.{Distinct}
use Rattle.lists.proofs.KeepTests.{keep_all}
use Rattle.lists.proofs.Members.{keep_mem}
use Rattle.lists.proofs.Pairs.{pairs_keep}
use Rattle.lists.proofs.Sort.{none, more}

abbrev other : ℕ → ℕ → Bool
other y x = not (eqb x y)

module _ (f : ℕ → ℕ) where
  -- y stands once at most
  sum_one : (y : ℕ) {l : List ℕ} → Distinct l → sum (map f l) ≤ f y + sum (map f (keep (other y) l))
  unfolding sum keep keep_head
  sum_one y none = omega arith
  sum_one y (more {x} {l} h r) = go (eqb x y) refl (sum_one y r)
    where
      alone : x ≡ y → keep (other y) l ≡ l
      alone e = keep_all (other y) l (λ z m. ap not (ne_eqb z y (λ q. h z m (e ∙ sym q))))

      go : (b : Bool) → eqb x y ≡ b → sum (map f l) ≤ f y + sum (map f (keep (other y) l))
          → f x + sum (map f l) ≤ f y + sum (map f (keep_head (not b) x (keep (other y) l)))
      go true e rest = let q = eqb-true x y e in omega (arith, ap f q, ap (λ (k : List ℕ). sum (map f k)) (alone q))
      go false e rest = omega arith

  pub sum_within : (k : List ℕ) {l : List ℕ} → Distinct l → ((x : ℕ) → Memᴰ x l → Memᴰ x k) → sum (map f l) ≤ sum (map f k)
  unfolding sum
  sum_within [] none within = omega arith
  sum_within [] (more {x} h r) within = absurd (Memᴰ.not-nil (within x (Memᴰ.head refl)))
  sum_within (y ∷ k) {l} d within =
      let rest : sum (map f (keep (other y) l)) ≤ sum (map f k) = sum_within k (pairs_keep (other y) d) (λ x m. later x (keep_mem (other y) l x m)) in
      omega (arith, sum_one y d)
    where
      later : (x : ℕ) → Memᴰ x l × (other y x ≡ true) → Memᴰ x k
      later x s = ⊎_elim (λ e. absurd (false≢true (sym (ap not (eq-eqb x y e)) ∙ s.1))) (λ t. t) (Memᴰ.cases_cons (within x s.0))
