-- Blocks laid end to end: a relation between earlier and later elements of them, and a fold over them, block by block.
use Prim.Native.Nat.{ℕ, zero, suc, ◌+◌, ◌<◌}
use mathlib.Core.List.Memᴰ
use mathlib.Core.List.{List, [], ◌∷◌, ◌++◌, flat_map, foldl, Memᴰ}
use mathlib.Core.Logic.{⊎_elim}
use mathlib.Core.Path.{◌≡◌, refl, ap, ◌∙◌}
use native.Mathlib.Omega.{arith}
use Rattle.lists.specs.Range.{range}
use Rattle.lists.proofs.Fold.{foldl_append}
use Rattle.lists.proofs.Members.{range_mem}
use Rattle.lists.proofs.Sort.{Pairs, none, more}
use Rattle.lists.proofs.FlatMap.{flat_map_mem}

-- a relation between any two numbers of a range, the lower first
pub pairs_range : (R : ℕ → ℕ → Type 0) (a k : ℕ) → ((l m : ℕ) → l < m → m < a + k → R l m) → Pairs R (range a k)
unfolding range
pairs_range R a zero h = none
pairs_range R a (suc k) h =
    more
    (λ m i. let w = range_mem (suc a) k m i in h a m w.0 (omega arith))
    (pairs_range R (suc a) k (λ l m u v. h l m u (omega arith)))

module _ {A : Type 0} {R : A → A → Type 0} where
  pub pairs_append : {l m : List A} → Pairs R l → Pairs R m → ((x y : A) → Memᴰ x l → Memᴰ y m → R x y) → Pairs R (l ++ m)
  pairs_append none q h = q
  pairs_append (more {x} {l} f p) q h =
      more (λ y i. ⊎_elim (f y) (h x y (Memᴰ.head refl)) (Memᴰ.append_cases l i)) (pairs_append p q (λ u v i j. h u v (Memᴰ.tail i) j))

  -- in each block, and between the elements of an earlier and a later block
  pub pairs_flat_map : {K : Type 0} (f : K → List A) {l : List K} → ((k : K) → Memᴰ k l → Pairs R (f k))
      → Pairs (λ k j. (x y : A) → Memᴰ x (f k) → Memᴰ y (f j) → R x y) l → Pairs R (flat_map f l)
  unfolding flat_map
  pairs_flat_map f within none = none
  pairs_flat_map f within (more {x = k} {l} h r) =
      pairs_append (within k (Memᴰ.head refl)) (pairs_flat_map f (λ j m. within j (Memᴰ.tail m)) r)
      (λ x y i m. let s = flat_map_mem f l y m in h s.0 s.1 x y i s.2)

-- a fold of which each step more takes a block
pub foldl_flat_map : {A B K : Type 0} (f : B → A → B) (step : B → K → B) (block : K → List A) → ((b : B) (k : K) → foldl f b (block k) ≡ step b k)
    → (b : B) (l : List K) → foldl f b (flat_map block l) ≡ foldl step b l
unfolding flat_map
foldl_flat_map f step block h b [] = refl
foldl_flat_map {A} {B} {K} f step block h b (k ∷ l) =
    foldl_append f b (block k) (flat_map block l)
    ∙ ap (λ (c : B). foldl f c (flat_map block l)) (h b k)
    ∙ foldl_flat_map f step block h (step b k) l
