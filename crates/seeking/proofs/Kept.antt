-- Images of the numbers that pass a test: functions and tests that agree, one number alone, and what holds of each.
use Prim.Native.Nat.{ℕ, zero, suc, ◌+◌, ◌≤◌, ◌<◌}
use mathlib.Core.Bool.{Bool, true, false, ◌&&◌, and-true, and-false}
use mathlib.Core.List.{List, [], ◌∷◌, map}
use mathlib.Core.Path.{◌≡◌, refl, ap, ap₂, ◌∙◌}
use native.Mathlib.Omega.{arith}
use borrow.Author.Tests.{eqb-true, eqb-false, ne_eqb}
use lib.Dec.{eqb}
use Rattle.lists.specs.Keep.{keep, keep_head}
use Rattle.lists.specs.Range.{range}
use Rattle.lists.proofs.Keep.{Each, none, more}

-- a number is s, or it is another
pub by_number : {P : Type 0} (i s : ℕ) → (i ≡ s → P) → ((i ≡ s → ⊥) → P) → P
by_number {P} i s same away = go (eqb i s) refl
  where
    go : (b : Bool) → eqb i s ≡ b → P
    go true e = same (eqb-true i s e)
    go false e = away (eqb-false i s e)

-- ---- what agrees on the numbers from a on

module _ {A : Type 0} (f g : ℕ → A) (p q : ℕ → Bool) where
  head_same : (b : Bool) (x : ℕ) (l m : List ℕ) → (b ≡ true → f x ≡ g x) → map f l ≡ map g m → map f (keep_head b x l) ≡ map g (keep_head b x m)
  unfolding keep_head
  head_same true x l m e r = ap₂ (λ (y : A) (t : List A). y ∷ t) (e refl) r
  head_same false x l m e r = r

  pub kept_same : (a k : ℕ) → ((i : ℕ) → a ≤ i → i < a + k → p i ≡ q i) → ((i : ℕ) → a ≤ i → i < a + k → q i ≡ true → f i ≡ g i)
      → map f (keep p (range a k)) ≡ map g (keep q (range a k))
  unfolding keep range
  kept_same a zero tests values = refl
  kept_same a (suc k) tests values =
      ap (λ b. map f (keep_head b a (keep p (range (suc a) k)))) (tests a (omega arith) (omega arith))
      ∙ head_same (q a) a (keep p (range (suc a) k)) (keep q (range (suc a) k)) (values a (omega arith) (omega arith))
      (kept_same (suc a) k (λ i l u. tests i (omega arith) (omega arith)) (λ i l u. values i (omega arith) (omega arith)))

pub all_kept : (p : ℕ → Bool) (a k : ℕ) → ((i : ℕ) → a ≤ i → i < a + k → p i ≡ true) → keep p (range a k) ≡ range a k
unfolding keep keep_head range
all_kept p a zero h = refl
all_kept p a (suc k) h =
    ap (λ b. keep_head b a (keep p (range (suc a) k))) (h a (omega arith) (omega arith))
    ∙ ap (λ l. a ∷ l) (all_kept p (suc a) k (λ i l u. h i (omega arith) (omega arith)))

none_kept : (p : ℕ → Bool) (a k : ℕ) → ((i : ℕ) → a ≤ i → i < a + k → p i ≡ false) → keep p (range a k) ≡ []
unfolding keep keep_head range
none_kept p a zero h = refl
none_kept p a (suc k) h =
    ap (λ b. keep_head b a (keep p (range (suc a) k))) (h a (omega arith) (omega arith))
    ∙ none_kept p (suc a) k (λ i l u. h i (omega arith) (omega arith))

-- of the numbers that pass, the one that is i
pub keep_one : (p : ℕ → Bool) (i a k : ℕ) → a ≤ i → i < a + k → keep (λ j. p j && eqb j i) (range a k) ≡ keep_head (p i) i []
unfolding keep keep_head range
keep_one p i a zero l u = absurd (omega arith)
keep_one p i a (suc k) l u = go (eqb a i) refl (keep_one p i (suc a) k)
  where
    there : Bool → List ℕ
    there b = keep_head (p a && b) a (keep (λ j. p j && eqb j i) (range (suc a) k))

    later : a ≡ i → (j : ℕ) → suc a ≤ j → j < suc a + k → (p j && eqb j i) ≡ false
    later e j l' u' = ap (λ b. p j && b) (ne_eqb j i (λ q. omega arith)) ∙ and-false (p j)

    go : (b : Bool) → eqb a i ≡ b → (suc a ≤ i → i < suc a + k → keep (λ j. p j && eqb j i) (range (suc a) k) ≡ keep_head (p i) i [])
        → keep (λ j. p j && eqb j i) (range a (suc k)) ≡ keep_head (p i) i []
    go true e rest =
        let q = eqb-true a i e in
        ap there e
        ∙ ap (λ b. keep_head b a (keep (λ j. p j && eqb j i) (range (suc a) k))) (and-true (p a))
        ∙ ap (keep_head (p a) a) (none_kept (λ j. p j && eqb j i) (suc a) k (later q))
        ∙ ap (λ n. keep_head (p n) n []) q
    go false e rest =
        let n = eqb-false a i e in
        ap there e
        ∙ ap (λ b. keep_head b a (keep (λ j. p j && eqb j i) (range (suc a) k))) (and-false (p a))
        ∙ rest (omega arith) (omega arith)

-- ---- what holds of each

module _ {A : Type 0} (P : A → Type 0) where
  pub each_there : (f : ℕ → A) (p : ℕ → Bool) (a k : ℕ) → ((i : ℕ) → a ≤ i → i < a + k → p i ≡ true → P (f i)) → Each P (map f (keep p (range a k)))
  unfolding keep keep_head range
  each_there f p a zero h = none
  each_there f p a (suc k) h = go (p a) (h a (omega arith) (omega arith)) (each_there f p (suc a) k (λ i l u. h i (omega arith) (omega arith)))
    where
      go : (b : Bool) → (b ≡ true → P (f a)) → Each P (map f (keep p (range (suc a) k))) → Each P (map f (keep_head b a (keep p (range (suc a) k))))
      go true x r = more (x refl) r
      go false x r = r

  -- what is kept passes besides
  pub kept_passes : (p : A → Bool) {l : List A} → Each P l → Each (λ x. P x × (p x ≡ true)) (keep p l)
  unfolding keep keep_head
  kept_passes p none = none
  kept_passes p (more {x} {l} q r) = go (p x) refl (kept_passes p r)
    where
      go : (b : Bool) → p x ≡ b → Each (λ x. P x × (p x ≡ true)) (keep p l) → Each (λ x. P x × (p x ≡ true)) (keep_head b x (keep p l))
      go true e s = more (q, e) s
      go false e s = s
