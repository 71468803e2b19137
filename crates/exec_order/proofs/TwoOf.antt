-- A test of some two elements of a list against a relation between each element and every later one.
use mathlib.Core.Bool.{Bool, true, false}
use mathlib.Core.List.Memᴰ
use mathlib.Core.List.{List, [], ◌∷◌, map, Memᴰ}
use mathlib.Core.Logic.{⊎_elim}
use mathlib.Core.Path.{◌≡◌, refl, sym, ap, ◌∙◌, subst, subst₂}
use Rattle.lists.proofs.Below.{neither}
use Rattle.lists.proofs.Sort.{Pairs, none, more}
use Rattle.exec_order.specs.AnyTwo.{any_of, any_two}

-- two answers of which each is false where the other is
pub same_answer : (a b : Bool) → (a ≡ false → b ≡ false) → (b ≡ false → a ≡ false) → a ≡ b
same_answer true true there back = refl
same_answer false false there back = refl
same_answer true false there back = back refl
same_answer false true there back = sym (there refl)

module _ {A : Type 0} where
  any_no : (p : A → Bool) (l : List A) → ((x : A) → Memᴰ x l → p x ≡ false) → any_of p l ≡ false
  unfolding any_of
  any_no p [] h = refl
  any_no p (x ∷ l) h = rw (h x (Memᴰ.head refl)) (any_no p l (λ y m. h y (Memᴰ.tail m)))

  no_any : (p : A → Bool) (l : List A) → any_of p l ≡ false → (x : A) → Memᴰ x l → p x ≡ false
  unfolding any_of
  no_any p [] e x m = absurd (Memᴰ.not-nil m)
  no_any p (y ∷ l) e x m =
      let s = neither (p y) (any_of p l) e in
      ⊎_elim (λ q. ap p q ∙ s.0) (λ t. no_any p l s.1 x t) (Memᴰ.cases_cons m)

  module _ (p : A → A → Bool) where
    pub none_two : {l : List A} → Pairs (λ x y. p x y ≡ false) l → any_two p l ≡ false
    unfolding any_two
    none_two none = refl
    none_two (more {x} {l} h r) = rw (any_no (p x) l h) (none_two r)

    pub two_none : (l : List A) → any_two p l ≡ false → Pairs (λ x y. p x y ≡ false) l
    unfolding any_two
    two_none [] e = none
    two_none (x ∷ l) e = let s = neither (any_of (p x) l) (any_two p l) e in more (no_any (p x) l s.0) (two_none l s.1)

  -- in a list of which any two are in an order, a relation holds between two elements in that order
  pub pairs_of : {R : A → A → Type 0} {S : A → A → Type 0} → ((x y : A) → S x y → S y x → ⊥) → {l : List A} → Pairs R l → Pairs S l
      → (x y : A) → Memᴰ x l → Memᴰ y l → S x y → R x y
  pairs_of asym none s x y i j o = absurd (Memᴰ.not-nil i)
  pairs_of {R} {S} asym (more {x = z} {l} h r) (more g s) x y i j o =
      ⊎_elim
      (λ e. ⊎_elim
      (λ q. let k : S z z = subst₂ S e q o in absurd (asym z z k k))
      (λ t. subst (λ (v : A). R v y) (sym e) (h y t))
      (Memᴰ.cases_cons j))
      (λ t. ⊎_elim
      (λ q. absurd (asym x y o (subst (λ (v : A). S v x) (sym q) (g x t))))
      (λ u. pairs_of asym r s x y t u o)
      (Memᴰ.cases_cons j))
      (Memᴰ.cases_cons i)

-- a relation between images, back at what they are images of
pub pairs_unmap : {A B : Type 0} (S : B → B → Type 0) (R : A → A → Type 0) (f : A → B) (l : List A)
    → ((x y : A) → Memᴰ x l → Memᴰ y l → S (f x) (f y) → R x y) → Pairs S (map f l) → Pairs R l
pairs_unmap S R f [] h p = none
pairs_unmap S R f (x ∷ l) h (more g r) =
    more
    (λ y m. h x y (Memᴰ.head refl) (Memᴰ.tail m) (g (f y) (Memᴰ.map f m)))
    (pairs_unmap S R f l (λ u v p q. h u v (Memᴰ.tail p) (Memᴰ.tail q)) r)
