-- A map of the numbers below n into themselves that sends no two to the same hits each of them. By lowering n by one: whatever went to
-- n goes where n went.
use Prim.Native.Nat.{ℕ, zero, suc, ◌<◌}
use mathlib.Core.Bool.{Bool, true, false, cond}
use mathlib.Core.Logic.{⊎_elim}
use mathlib.Core.Path.{◌≡◌, refl, sym, ◌∙◌}
use native.Mathlib.Nat.{not-suc-le-zero, eq-or-lt_of_le, le_of_suc-le-suc, lt-suc_self}
use native.Mathlib.Omega.{arith}
use borrow.Author.Tests.{eqb-true, eqb-false}
use lib.Dec.{eqb}

-- ρ, with n left out: what went to n goes to t
lowered : (ℕ → ℕ) → ℕ → ℕ → ℕ → ℕ
lowered ρ n t m = cond (eqb (ρ m) n) t (ρ m)

-- the two cases of it
cases : (ρ : ℕ → ℕ) (n t m : ℕ) (P : Type 0) → (ρ m ≡ n → lowered ρ n t m ≡ t → P) → ((ρ m ≡ n → ⊥) → lowered ρ n t m ≡ ρ m → P) → P
unfolding lowered
cases ρ n t m P hit miss = go (eqb (ρ m) n) refl
  where
    go : (b : Bool) → eqb (ρ m) n ≡ b → P
    go true e = hit (eqb-true (ρ m) n e) (rw e)
    go false e = miss (eqb-false (ρ m) n e) (rw e)

pub hits : (n : ℕ) (ρ : ℕ → ℕ) → ((m : ℕ) → m < n → ρ m < n)
    → ((l m : ℕ) → l < n → m < n → ρ l ≡ ρ m → l ≡ m) → (k : ℕ) → k < n → (m : ℕ) × (m < n) × (ρ m ≡ k)
hits zero ρ within apart k h = absurd (not-suc-le-zero h)
hits (suc n) ρ within apart k h = go (eqb (ρ n) k) refl (hits n σ into one)
  where
    σ : ℕ → ℕ
    σ = lowered ρ n (ρ n)

    weaker : {m : ℕ} → m < n → m < suc n
    weaker l = omega arith

    other : (m : ℕ) → m < n → ρ m ≡ ρ n → ⊥
    other m l e = omega (arith, apart m n (weaker l) (lt-suc_self n) e)

    -- a number is n or below it
    ends : (x : ℕ) → x < suc n → (x ≡ n → ⊥) → x < n
    ends x l ne = ⊎_elim (λ e. absurd (ne e)) (λ u. u) (eq-or-lt_of_le (le_of_suc-le-suc l))

    into : (m : ℕ) → m < n → σ m < n
    into m l =
        cases ρ n (ρ n) m (σ m < n)
        (λ e q. rw q (ends (ρ n) (within n (lt-suc_self n)) (λ t. other m l (e ∙ sym t))))
        (λ ne q. rw q (ends (ρ m) (within m (weaker l)) ne))

    one : (l m : ℕ) → l < n → m < n → σ l ≡ σ m → l ≡ m
    one l m u v e =
        cases ρ n (ρ n) l (l ≡ m)
        (λ p q. cases ρ n (ρ n) m (l ≡ m) (λ r s. apart l m (weaker u) (weaker v) (p ∙ sym r)) (λ r s. absurd (other m v (sym s ∙ sym e ∙ q))))
        (λ p q. cases ρ n (ρ n) m (l ≡ m) (λ r s. absurd (other l u (sym q ∙ e ∙ s))) (λ r s. apart l m (weaker u) (weaker v) (sym q ∙ e ∙ s)))

    go : (b : Bool) → eqb (ρ n) k ≡ b → ((j : ℕ) → j < n → (m : ℕ) × (m < n) × (σ m ≡ j)) → (m : ℕ) × (m < suc n) × (ρ m ≡ k)
    go true e rest = (n, lt-suc_self n, eqb-true (ρ n) k e)
    go false e rest = ⊎_elim last early (eq-or-lt_of_le (le_of_suc-le-suc h))
      where
        early : k < n → (m : ℕ) × (m < suc n) × (ρ m ≡ k)
        early l =
            let s = rest k l in
            cases ρ n (ρ n) s.0 ((m : ℕ) × (m < suc n) × (ρ m ≡ k))
            (λ p q. absurd (eqb-false (ρ n) k e (sym q ∙ s.2)))
            (λ p q. (s.0, weaker s.1, sym q ∙ s.2))

        last : k ≡ n → (m : ℕ) × (m < suc n) × (ρ m ≡ k)
        last t =
            let s = rest (ρ n) (ends (ρ n) (within n (lt-suc_self n)) (λ u. eqb-false (ρ n) k e (u ∙ sym t))) in
            cases ρ n (ρ n) s.0 ((m : ℕ) × (m < suc n) × (ρ m ≡ k))
            (λ p q. (s.0, weaker s.1, p ∙ sym t))
            (λ p q. absurd (other s.0 s.1 (sym q ∙ s.2)))
