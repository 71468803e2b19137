-- Byte order is a strict total order. The head bytes decide, and where they are equal, the rest does.
use Prim.Native.Nat.{ℕ, ◌+◌, ◌≤◌, ◌<◌}
use mathlib.Core.Bool.{Bool, true, false, true≢false, false≢true}
use mathlib.Core.List.{List, [], ◌∷◌}
use mathlib.Core.Logic.{◌⊎◌, inl, inr, ⊎_elim}
use mathlib.Core.Path.{◌≡◌, refl, sym, ap₂, ◌∙◌}
use native.Mathlib.Numerals.{add-one}
use native.Mathlib.Omega.{arith}
use borrow.Author.Tests.{lt-ltb, le-ltb, eq-eqb, ne_eqb, ltb-true, ltb-false}
use Rattle.std.proofs.lemmas.Grind.{common_steps}
use Rattle.std.proofs.lemmas.Bool.Decides.{nat_tests}
use Rattle.std.proofs.Common.{Some}
use Rattle.std.specs.Ordering.{nat_cmp, partial_lt}
use Rattle.std.specs.Cmp.Lexicographic.{slice_partial_cmp}
use lib.Dec.{ltb}
use lib.ListN.{length, get_or, drop, drop_of_length-le}
use lib.Seq.{drop-cons}
use Rattle.ids.specs.Order.{before}

-- ---- what the head bytes decide

module _ (a b : ℕ) (l r : List ℕ) where
  pub head_below : a < b → before (a ∷ l) (b ∷ r) ≡ true
  unfolding before
  head_below h = rw (lt-ltb a b h)

  pub head_same : a ≡ b → before (a ∷ l) (b ∷ r) ≡ before l r
  unfolding before
  head_same e = let h : b ≤ a = omega arith in rw (le-ltb a b h, eq-eqb a b e)

  pub head_above : b < a → before (a ∷ l) (b ∷ r) ≡ false
  unfolding before
  head_above h =
      let le : b ≤ a = omega arith in
      let ne : (a ≡ b → ⊥) = omega arith in
      rw (le-ltb a b le, ne_eqb a b ne)

-- which of two bytes is the lower
bytes : (a b : ℕ) → (a ≡ b) ⊎ ((a < b) ⊎ (b < a))
bytes a b = go (ltb a b) (ltb b a) refl refl
  where
    go : (s t : Bool) → ltb a b ≡ s → ltb b a ≡ t → (a ≡ b) ⊎ ((a < b) ⊎ (b < a))
    go true t p q = inr (inl (ltb-true a b p))
    go false true p q = inr (inr (ltb-true b a q))
    go false false p q = inl (omega (arith, ltb-false a b p, ltb-false b a q))

-- how one id comes to stand before another
heads : (a b : ℕ) (l r : List ℕ) → before (a ∷ l) (b ∷ r) ≡ true → (a < b) ⊎ ((a ≡ b) × (before l r ≡ true))
heads a b l r e =
    ⊎_elim
    (λ p. inr (p, sym (head_same a b l r p) ∙ e))
    (⊎_elim (λ p. inl p) (λ p. absurd (false≢true (sym (head_above a b l r p) ∙ e))))
    (bytes a b)

-- ---- the laws

pub before_irrefl : (l : List ℕ) → before l l ≡ false
unfolding before
before_irrefl [] = refl
before_irrefl (a ∷ l) = head_same a a l l refl ∙ before_irrefl l

pub before_trans : (l m r : List ℕ) → before l m ≡ true → before m r ≡ true → before l r ≡ true
unfolding before
before_trans [] [] r p q = absurd (false≢true p)
before_trans [] (b ∷ m) [] p q = absurd (false≢true q)
before_trans [] (b ∷ m) (c ∷ r) p q = refl
before_trans (a ∷ l) [] r p q = absurd (false≢true p)
before_trans (a ∷ l) (b ∷ m) [] p q = absurd (false≢true q)
before_trans (a ∷ l) (b ∷ m) (c ∷ r) p q =
    ⊎_elim
    (λ s. ⊎_elim (λ t. head_below a c l r (omega arith)) (λ t. head_below a c l r (omega arith)) (heads b c m r q))
    (λ s. ⊎_elim
    (λ t. head_below a c l r (omega arith))
    (λ t. head_same a c l r (s.0 ∙ t.0) ∙ before_trans l m r s.1 t.1)
    (heads b c m r q))
    (heads a b l m p)

pub before_asym : (l r : List ℕ) → before l r ≡ true → before r l ≡ false
before_asym l r p = go (before r l) refl
  where
    go : (t : Bool) → before r l ≡ t → t ≡ false
    go true q = absurd (false≢true (sym (before_irrefl l) ∙ before_trans l r l p q))
    go false q = refl

pub before_total : (l r : List ℕ) → (l ≡ r) ⊎ ((before l r ≡ true) ⊎ (before r l ≡ true))
unfolding before
before_total [] [] = inl refl
before_total [] (b ∷ r) = inr (inl refl)
before_total (a ∷ l) [] = inr (inr refl)
before_total (a ∷ l) (b ∷ r) =
    ⊎_elim
    (λ e. ⊎_elim
    (λ p. inl (ap₂ (λ (x : ℕ) (t : List ℕ). x ∷ t) e p))
    (⊎_elim (λ p. inr (inl (head_same a b l r e ∙ p))) (λ p. inr (inr (head_same b a r l (sym e) ∙ p))))
    (before_total l r))
    (⊎_elim (λ h. inr (inl (head_below a b l r h))) (λ h. inr (inr (head_below b a r l h))))
    (bytes a b)

-- two ids of which neither stands before the other are the same
pub equal_of_neither : (l r : List ℕ) → before l r ≡ false → before r l ≡ false → l ≡ r
equal_of_neither l r p q =
    ⊎_elim
    (λ e. e)
    (⊎_elim (λ t. absurd (true≢false (sym t ∙ p))) (λ t. absurd (true≢false (sym t ∙ q))))
    (before_total l r)

-- a test that puts the elements of a type in a strict total order
pub record StrictTotalOrder (A : Type 0) (lower : A → A → Bool) : Type 0 where
  pub irrefl : (a : A) → lower a a ≡ false
  pub trans : (a b c : A) → lower a b ≡ true → lower b c ≡ true → lower a c ≡ true
  pub asym : (a b : A) → lower a b ≡ true → lower b a ≡ false
  pub total : (a b : A) → (a ≡ b) ⊎ ((lower a b ≡ true) ⊎ (lower b a ≡ true))

pub byte_order : StrictTotalOrder (List ℕ) before
byte_order = record { irrefl = before_irrefl; trans = before_trans; asym = before_asym; total = before_total }

-- ---- what the comparison of two slices answers

pub compared : (l r : List ℕ) → partial_lt (slice_partial_cmp (λ x y. Some (nat_cmp x y))) l r ≡ before l r
unfolding before
compared [] [] = refl
compared [] (b ∷ r) = refl
compared (a ∷ l) [] = refl
compared (a ∷ l) (b ∷ r) = grind (arith, common_steps, nat_tests, compared l r)
