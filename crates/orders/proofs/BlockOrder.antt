-- Whether the elements of a list ascend, looked at block by block: a block and what follows it share one element.
use Prim.Native.Nat.{ℕ, zero, suc, ◌≤◌, ◌<◌}
use mathlib.Core.Bool.{Bool, false, ◌||◌, or_assoc}
use mathlib.Core.List.{List, [], ◌∷◌}
use mathlib.Core.Path.{◌≡◌, refl, sym, ap, ◌∙◌}
use native.Mathlib.Omega.{arith}
use lib.ListN.{length, get_or, take, drop, drop_of_length-le}
use Rattle.orders.specs.Ascending.{falls_by}

module _ {A : Type 0} (lower : A → A → Bool) where
  pub block_and_rest : (n : ℕ) (l : List A) → falls_by lower l ≡ (falls_by lower (take (suc n) l) || falls_by lower (drop n l))
  unfolding falls_by
  block_and_rest zero [] = refl
  block_and_rest zero (x ∷ l) = refl
  block_and_rest (suc n) [] = refl
  block_and_rest (suc n) (x ∷ []) = rw (drop_of_length-le {A = A} [] {i = n} (omega arith))
  block_and_rest (suc n) (x ∷ y ∷ l) =
      ap (λ (t : Bool). lower y x || t) (block_and_rest n (y ∷ l)) ∙ sym (or_assoc (lower y x) (falls_by lower (y ∷ take n l)) (falls_by lower (drop n (y ∷ l))))

  -- the first two elements, and what follows the first
  pub pair_and_rest : (l pair : List A) (x y : A) → 2 ≤ length l → pair ≡ take 2 l → x ≡ get_or pair 0 x → y ≡ get_or pair 1 y
      → falls_by lower l ≡ (lower y x || falls_by lower (drop 1 l))
  unfolding falls_by
  pair_and_rest [] pair x y h e p q = absurd (omega arith)
  pair_and_rest (a ∷ []) pair x y h e p q = absurd (omega arith)
  pair_and_rest (a ∷ b ∷ l) pair x y h e p q =
      let first : x ≡ a = p ∙ ap (λ (s : List A). get_or s 0 x) e in
      let second : y ≡ b = q ∙ ap (λ (s : List A). get_or s 1 y) e in
      rw (first, second)

  pub few_fall : (l : List A) → length l < 2 → falls_by lower l ≡ false
  unfolding falls_by
  few_fall [] h = refl
  few_fall (a ∷ []) h = refl
  few_fall (a ∷ b ∷ l) h = absurd (omega arith)
