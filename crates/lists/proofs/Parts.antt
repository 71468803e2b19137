-- Parts of a list: their images, what stands in them, a part of a part, two parts side by side, and one element more.
-- `slice f t l`, the elements from f up to t, is what code reads as `l[f..t]`; it is also `take (t - f) (drop f l)`.
use Prim.Native.Nat.{ℕ, zero, suc, ◌+◌, ◌-◌, ◌≤◌}
use mathlib.Core.List.Memᴰ
use mathlib.Core.List.{List, [], ◌∷◌, ◌++◌, map, Memᴰ}
use mathlib.Core.Path.{◌≡◌, refl, sym, ap, ap₂, ◌∙◌, subst}
use native.Mathlib.Nat.{sub-zero, zero-sub, suc-sub-suc}
use native.Mathlib.Omega.{arith}
use lib.ListN.{take, drop, take-append-drop}
use lib.Seq.{take-nil, take-take, drop-drop, slice}

module _ {A B : Type 0} (f : A → B) where
  pub map_take : (n : ℕ) (l : List A) → map f (take n l) ≡ take n (map f l)
  map_take zero l = refl
  map_take (suc n) [] = refl
  map_take (suc n) (x ∷ l) = ap (λ (r : List B). f x ∷ r) (map_take n l)

  pub map_drop : (n : ℕ) (l : List A) → map f (drop n l) ≡ drop n (map f l)
  map_drop zero l = refl
  map_drop (suc n) [] = refl
  map_drop (suc n) (x ∷ l) = map_drop n l

module _ {A : Type 0} where
  pub take_mem : {x : A} (n : ℕ) (l : List A) → Memᴰ x (take n l) → Memᴰ x l
  take_mem {x} n l m = subst (λ (r : List A). Memᴰ x r) (take-append-drop n l) (Memᴰ.append_left (drop n l) m)

  pub drop_mem : {x : A} (n : ℕ) (l : List A) → Memᴰ x (drop n l) → Memᴰ x l
  drop_mem {x} n l m = subst (λ (r : List A). Memᴰ x r) (take-append-drop n l) (Memᴰ.append_right (take n l) m)

  pub slice_part : (a b : ℕ) (l : List A) → slice a b l ≡ take (b - a) (drop a l)
  slice_part zero b l = rw (sub-zero b)
  slice_part (suc a) zero l = rw (zero-sub (suc a))
  slice_part (suc a) (suc b) [] = sym (take-nil (suc b - suc a))
  slice_part (suc a) (suc b) (x ∷ l) = slice_part a b l ∙ ap (λ (n : ℕ). take n (drop a l)) (sym (suc-sub-suc b a))

  -- a part of a part, from its place in the whole
  pub part_part : (a n b c : ℕ) (l : List A) → b + c ≤ n → take c (drop b (take n (drop a l))) ≡ take c (drop (a + b) l)
  part_part a n b c l h =
      ap (take c) (slice_part b n (drop a l))
      ∙ take-take c (n - b) (drop b (drop a l)) (omega arith)
      ∙ ap (take c) (drop-drop b a l)

  pub slice_slice : (a d b c : ℕ) (l : List A) → a + c ≤ d → slice b c (slice a d l) ≡ slice (a + b) (a + c) l
  slice_slice a d b c l h =
      let less : (a + c) - (a + b) ≡ c - b = omega arith in
      ap (λ (r : List A). slice b c r) (slice_part a d l)
      ∙ ap (drop b) (take-take c (d - a) (drop a l) (omega arith))
      ∙ slice_part b c (drop a l)
      ∙ ap₂ take (sym less) (drop-drop b a l)
      ∙ sym (slice_part (a + b) (a + c) l)

  -- the first n of what follows a, and the rest
  pub drop_part : (a b : ℕ) (l : List A) → a ≤ b → drop a l ≡ take (b - a) (drop a l) ++ drop b l
  drop_part a b l h =
      let up : a + (b - a) ≡ b = omega arith in
      sym (take-append-drop (b - a) (drop a l)) ∙ ap (λ (r : List A). take (b - a) (drop a l) ++ r) (drop-drop (b - a) a l ∙ ap (λ n. drop n l) up)

  pub slice_join : (a b c : ℕ) (l : List A) → a ≤ b → b ≤ c → slice a b l ++ slice b c l ≡ slice a c l
  slice_join a b c l h k =
      sym (drop_part a b (take c l) h ∙ ap (λ (r : List A). r ++ slice b c l) (sym (slice_part a b (take c l)) ∙ ap (drop a) (take-take b c l k)))
