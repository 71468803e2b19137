-- Blocks laid end to end, one for each key of a list (`flat_map`): of two lists of keys, blocks that agree, what stands in them, what is kept.
use mathlib.Core.Bool.{Bool}
use mathlib.Core.List.Memᴰ
use mathlib.Core.List.{List, [], ◌∷◌, ◌++◌, flat_map, append_assoc, Memᴰ}
use mathlib.Core.Logic.{⊎_elim}
use mathlib.Core.Path.{◌≡◌, refl, sym, ap, ap₂, ◌∙◌, subst}
use Rattle.lists.specs.Keep.{keep}
use Rattle.lists.proofs.Keep.{keep_append}

module _ {A B : Type 0} (f : A → List B) where
  pub flat_map_append : (l m : List A) → flat_map f (l ++ m) ≡ flat_map f l ++ flat_map f m
  unfolding flat_map
  flat_map_append [] m = refl
  flat_map_append (x ∷ l) m = ap (λ (r : List B). f x ++ r) (flat_map_append l m) ∙ sym (append_assoc (f x) (flat_map f l) (flat_map f m))

  pub flat_map_mem : (l : List A) (y : B) → Memᴰ y (flat_map f l) → (x : A) × Memᴰ x l × Memᴰ y (f x)
  unfolding flat_map
  flat_map_mem [] y m = absurd (Memᴰ.not-nil m)
  flat_map_mem (x ∷ l) y m = go (flat_map_mem l y)
    where
      go : (Memᴰ y (flat_map f l) → (x : A) × Memᴰ x l × Memᴰ y (f x)) → (z : A) × Memᴰ z (x ∷ l) × Memᴰ y (f z)
      go rest =
          ⊎_elim (λ i. (x, Memᴰ.head refl, i)) (λ i. let s = rest i in (s.0, Memᴰ.tail s.1, s.2)) (Memᴰ.append_cases (f x) m)

  pub mem_flat_map : (x : A) {l : List A} (y : B) → Memᴰ x l → Memᴰ y (f x) → Memᴰ y (flat_map f l)
  unfolding flat_map
  mem_flat_map x y (Memᴰ.head {xs = l} e) i = Memᴰ.append_left (flat_map f l) (subst (λ (v : A). Memᴰ y (f v)) e i)
  mem_flat_map x y (Memᴰ.tail {x = z} m) i = Memᴰ.append_right (f z) (mem_flat_map x y m i)

  pub flat_map_same : (g : A → List B) (l : List A) → ((x : A) → Memᴰ x l → f x ≡ g x) → flat_map f l ≡ flat_map g l
  unfolding flat_map
  flat_map_same g [] h = refl
  flat_map_same g (x ∷ l) h =
      ap₂ (λ (u v : List B). u ++ v) (h x (Memᴰ.head refl)) (flat_map_same g l (λ y m. h y (Memᴰ.tail m)))

  pub keep_flat_map : (p : B → Bool) (l : List A) → keep p (flat_map f l) ≡ flat_map (λ x. keep p (f x)) l
  unfolding flat_map keep
  keep_flat_map p [] = refl
  keep_flat_map p (x ∷ l) = keep_append p (f x) (flat_map f l) ∙ ap (λ (r : List B). keep p (f x) ++ r) (keep_flat_map p l)
