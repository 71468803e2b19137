-- Keeping by one test after another, by tests that agree on the list, by a test that all of it pass or none, and of an image.
use mathlib.Core.Bool.{Bool, true, false, ◌&&◌}
use mathlib.Core.List.{List, [], ◌∷◌, map, Memᴰ}
use mathlib.Core.Path.{◌≡◌, refl, ap, ap₂, ◌∙◌}
use Rattle.lists.specs.Keep.{keep, keep_head}

module _ {A : Type 0} where
  keep_head_lem : (p : A → Bool) (b : Bool) (x : A) (l : List A) → keep p (keep_head b x l) ≡ keep_head (b && p x) x (keep p l)
  unfolding keep keep_head
  keep_head_lem p true x l = refl
  keep_head_lem p false x l = refl

  pub keep_keep : (p q : A → Bool) (l : List A) → keep p (keep q l) ≡ keep (λ x. q x && p x) l
  unfolding keep
  keep_keep p q [] = refl
  keep_keep p q (x ∷ l) = keep_head_lem p (q x) x (keep q l) ∙ ap (keep_head (q x && p x) x) (keep_keep p q l)

  pub keep_same : (p q : A → Bool) (l : List A) → ((x : A) → Memᴰ x l → p x ≡ q x) → keep p l ≡ keep q l
  unfolding keep
  keep_same p q [] h = refl
  keep_same p q (x ∷ l) h =
      ap₂ (λ (b : Bool) (r : List A). keep_head b x r) (h x (Memᴰ.head refl)) (keep_same p q l (λ y m. h y (Memᴰ.tail m)))

  pub keep_all : (p : A → Bool) (l : List A) → ((x : A) → Memᴰ x l → p x ≡ true) → keep p l ≡ l
  unfolding keep keep_head
  keep_all p [] h = refl
  keep_all p (x ∷ l) h = rw (h x (Memᴰ.head refl), keep_all p l (λ y m. h y (Memᴰ.tail m)))

  pub keep_none : (p : A → Bool) (l : List A) → ((x : A) → Memᴰ x l → p x ≡ false) → keep p l ≡ []
  unfolding keep keep_head
  keep_none p [] h = refl
  keep_none p (x ∷ l) h = rw (h x (Memᴰ.head refl)) (keep_none p l (λ y m. h y (Memᴰ.tail m)))

module _ {A B : Type 0} (p : B → Bool) (f : A → B) where
  map_head : (b : Bool) (x : A) (l : List A) → keep_head b (f x) (map f l) ≡ map f (keep_head b x l)
  unfolding keep_head
  map_head true x l = refl
  map_head false x l = refl

  pub keep_map : (l : List A) → keep p (map f l) ≡ map f (keep (λ x. p (f x)) l)
  unfolding keep
  keep_map [] = refl
  keep_map (x ∷ l) = ap (keep_head (p (f x)) (f x)) (keep_map l) ∙ map_head (p (f x)) x (keep (λ x. p (f x)) l)
