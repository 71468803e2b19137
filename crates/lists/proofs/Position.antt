-- What stands in a list, or in its first or last part, stands at a position of it, and the other way round.
use Prim.Native.Nat.{ℕ, zero, suc, ◌≤◌, ◌<◌, suc-le-suc}
use mathlib.Core.List.Memᴰ
use mathlib.Core.List.{List, [], ◌∷◌, Memᴰ}
use mathlib.Core.Logic.{⊎_elim}
use mathlib.Core.Path.{◌≡◌, refl, sym}
use native.Mathlib.Nat.{not-suc-le-zero, le_of_suc-le-suc, zero-lt-suc}
use native.Mathlib.Omega.{arith}
use lib.ListN.{length, get_or, take, drop}

module _ {A : Type 0} where
  pub mem_get_or : {x : A} {l : List A} (d : A) → Memᴰ x l → (i : ℕ) × (i < length l) × (get_or l i d ≡ x)
  mem_get_or d (Memᴰ.head {xs = l} e) = (zero, zero-lt-suc (length l), sym e)
  mem_get_or d (Memᴰ.tail m) = let s = mem_get_or d m in (suc s.0, suc-le-suc s.1, s.2)

  pub get_or_mem : (l : List A) (i : ℕ) (d : A) → i < length l → Memᴰ (get_or l i d) l
  get_or_mem [] i d h = absurd (not-suc-le-zero h)
  get_or_mem (x ∷ l) zero d h = Memᴰ.head refl
  get_or_mem (x ∷ l) (suc i) d h = Memᴰ.tail (get_or_mem l i d (le_of_suc-le-suc h))

  pub take_position : {x : A} (n : ℕ) (l : List A) (d : A) → Memᴰ x (take n l) → (i : ℕ) × (i < n) × (i < length l) × (get_or l i d ≡ x)
  take_position zero l d m = absurd (Memᴰ.not-nil m)
  take_position (suc n) [] d m = absurd (Memᴰ.not-nil m)
  take_position (suc n) (y ∷ l) d m =
      ⊎_elim
      (λ e. (zero, zero-lt-suc n, zero-lt-suc (length l), sym e))
      (λ t. let s = take_position n l d t in (suc s.0, suc-le-suc s.1, suc-le-suc s.2, s.3))
      (Memᴰ.cases_cons m)

  pub drop_position : {x : A} (n : ℕ) (l : List A) (d : A) → Memᴰ x (drop n l) → (i : ℕ) × (n ≤ i) × (i < length l) × (get_or l i d ≡ x)
  drop_position zero l d m = let s = mem_get_or d m in (s.0, omega arith, s.1, s.2)
  drop_position (suc n) [] d m = absurd (Memᴰ.not-nil m)
  drop_position (suc n) (y ∷ l) d m = let s = drop_position n l d m in (suc s.0, suc-le-suc s.1, suc-le-suc s.2, s.3)

  pub position_take : (n : ℕ) (l : List A) (i : ℕ) (d : A) → i < n → i < length l → Memᴰ (get_or l i d) (take n l)
  position_take zero l i d h b = absurd (not-suc-le-zero h)
  position_take (suc n) [] i d h b = absurd (not-suc-le-zero b)
  position_take (suc n) (x ∷ l) zero d h b = Memᴰ.head refl
  position_take (suc n) (x ∷ l) (suc i) d h b = Memᴰ.tail (position_take n l i d (le_of_suc-le-suc h) (le_of_suc-le-suc b))

  pub position_drop : (n : ℕ) (l : List A) (i : ℕ) (d : A) → n ≤ i → i < length l → Memᴰ (get_or l i d) (drop n l)
  position_drop zero l i d h b = get_or_mem l i d b
  position_drop (suc n) [] i d h b = absurd (not-suc-le-zero b)
  position_drop (suc n) (x ∷ l) zero d h b = absurd (not-suc-le-zero h)
  position_drop (suc n) (x ∷ l) (suc i) d h b = position_drop n l i d (le_of_suc-le-suc h) (le_of_suc-le-suc b)
