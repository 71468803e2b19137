-- How many elements are kept: no more than there are, and by two tests of which each element passes just one, all of them together.
use Prim.Native.Nat.{ℕ, suc, ◌+◌, ◌≤◌}
use mathlib.Core.Bool.{Bool, true, false, not}
use mathlib.Core.List.{List, [], ◌∷◌, Memᴰ}
use mathlib.Core.Path.{◌≡◌, refl}
use native.Mathlib.Omega.{arith}
use lib.ListN.{length}
use Rattle.lists.specs.Keep.{keep, keep_head}

pub mem_length : {A : Type 0} {x : A} {l : List A} → Memᴰ x l → 1 ≤ length l
mem_length (Memᴰ.head e) = omega arith
mem_length (Memᴰ.tail m) = omega arith

module _ {A : Type 0} where
  pub keep_le : (p : A → Bool) (l : List A) → length (keep p l) ≤ length l
  unfolding keep keep_head
  keep_le p [] = omega arith
  keep_le p (x ∷ l) = go (p x) (keep_le p l)
    where
      go : (b : Bool) → length (keep p l) ≤ length l → length (keep_head b x (keep p l)) ≤ suc (length l)
      go true h = omega arith
      go false h = omega arith

  pub keep_parts : (p q : A → Bool) (l : List A) → ((x : A) → Memᴰ x l → q x ≡ not (p x)) → length (keep p l) + length (keep q l) ≡ length l
  unfolding keep keep_head
  keep_parts p q [] h = omega arith
  keep_parts p q (x ∷ l) h = go (p x) (q x) (h x (Memᴰ.head refl)) (keep_parts p q l (λ y m. h y (Memᴰ.tail m)))
    where
      go : (b c : Bool) → c ≡ not b → length (keep p l) + length (keep q l) ≡ length l
          → length (keep_head b x (keep p l)) + length (keep_head c x (keep q l)) ≡ suc (length l)
      go true true e r = absurd (let z : ◌≡◌ {A = ℕ} 0 1 = cc in omega arith)
      go true false e r = omega arith
      go false true e r = omega arith
      go false false e r = absurd (let z : ◌≡◌ {A = ℕ} 0 1 = cc in omega arith)
