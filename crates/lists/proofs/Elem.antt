-- The test for a number in a list against membership, and under a translation of the numbers.
use Prim.Native.Nat.{ℕ}
use mathlib.Core.Bool.{Bool, true, false, ◌||◌, or-true, false≢true, true≢false}
use mathlib.Core.List.{List, [], ◌∷◌, map, Memᴰ}
use mathlib.Core.Path.{◌≡◌, refl, sym, ap, ap₂, ◌∙◌}
use borrow.Author.Tests.{eqb-true, eqb-false, eq-eqb, ne_eqb}
use lib.Dec.{eqb}
use Rattle.lists.specs.Elem.{elem}
use Rattle.lists.proofs.Below.{refuted}

pub elem_mem : (x : ℕ) (l : List ℕ) → elem x l ≡ true → Memᴰ x l
unfolding elem
elem_mem x [] e = absurd (false≢true e)
elem_mem x (y ∷ l) e = go (eqb x y) refl e (elem_mem x l)
  where
    go : (b : Bool) → eqb x y ≡ b → (b || elem x l) ≡ true → (elem x l ≡ true → Memᴰ x l) → Memᴰ x (y ∷ l)
    go true q f rest = Memᴰ.head (eqb-true x y q)
    go false q f rest = Memᴰ.tail (rest f)

pub mem_elem : (x : ℕ) {l : List ℕ} → Memᴰ x l → elem x l ≡ true
unfolding elem
mem_elem x (Memᴰ.head {x = y} e) = rw (eq-eqb x y e)
mem_elem x (Memᴰ.tail {x = y} m) = rw (mem_elem x m) (or-true (eqb x y))

pub not_elem : (x : ℕ) (l : List ℕ) → (Memᴰ x l → ⊥) → elem x l ≡ false
not_elem x l h = refuted (elem x l) (λ e. h (elem_mem x l e))

-- the test agrees where membership does
pub elem_same : (x y : ℕ) (l r : List ℕ) → (Memᴰ x l → Memᴰ y r) → (Memᴰ y r → Memᴰ x l) → elem x l ≡ elem y r
elem_same x y l r there back = go (elem x l) (elem y r) refl refl
  where
    go : (a b : Bool) → elem x l ≡ a → elem y r ≡ b → a ≡ b
    go true true p q = refl
    go false false p q = refl
    go true false p q = absurd (true≢false (sym (mem_elem y (there (elem_mem x l p))) ∙ q))
    go false true p q = absurd (true≢false (sym (mem_elem x (back (elem_mem y r q))) ∙ p))

-- ---- numbers that are translated, no two of those in question to the same

pub eqb_translated : (ρ : ℕ → ℕ) (x y : ℕ) → (ρ x ≡ ρ y → x ≡ y) → eqb (ρ x) (ρ y) ≡ eqb x y
eqb_translated ρ x y apart = go (eqb x y) refl
  where
    go : (b : Bool) → eqb x y ≡ b → eqb (ρ x) (ρ y) ≡ b
    go true e = eq-eqb (ρ x) (ρ y) (ap ρ (eqb-true x y e))
    go false e = ne_eqb (ρ x) (ρ y) (λ q. eqb-false x y e (apart q))

pub elem_translated : (ρ : ℕ → ℕ) (x : ℕ) (l : List ℕ) → ((y : ℕ) → Memᴰ y l → ρ x ≡ ρ y → x ≡ y) → elem (ρ x) (map ρ l) ≡ elem x l
unfolding elem
elem_translated ρ x [] apart = refl
elem_translated ρ x (y ∷ l) apart =
    ap₂ ◌||◌ (eqb_translated ρ x y (apart y (Memᴰ.head refl))) (elem_translated ρ x l (λ z m. apart z (Memᴰ.tail m)))
