-- A list of numbers looked through one after the other, for the first in an order.
use Prim.Native.Nat.{ℕ, ◌+◌, ◌<◌}
use mathlib.Core.Bool.{Bool}
use mathlib.Core.List.{List, [], ◌∷◌, ◌++◌, map, map-append}
use mathlib.Core.Option.{Option, none}
use mathlib.Core.Path.{◌≡◌, refl, sym, ap, ◌∙◌}
use native.Mathlib.Numerals.{add-one}
use native.Mathlib.Omega.{arith}
use lib.ListN.{length, get_or, take}
use lib.Seq.{take-suc}
use Rattle.lists.specs.Keep.{keep}
use Rattle.lists.specs.Least.{least}
use Rattle.seeking.specs.Search.{looked}
use Rattle.seeking.proofs.Least.{least_more}

length_zero : (l : List ℕ) → length l ≡ 0 → l ≡ []
length_zero [] e = refl
length_zero (x ∷ l) e = absurd (omega arith)

module _ {A : Type 0} (f : ℕ → A) (before : A → A → Bool) (l : List ℕ) where
  images_more : (i : ℕ) → i < length l → map f (take (i + 1) l) ≡ map f (take i l) ++ (f (get_or l i 0) ∷ [])
  images_more i h = rw (add-one i) (ap (map f) (take-suc l i 0 h) ∙ map-append f (take i l) (get_or l i 0 ∷ []))

  -- none if there is none
  pub search_empty : length l ≡ 0 → none ≡ least before (map f l)
  unfolding least
  search_empty e = ap (λ m. least before (map f m)) (sym (length_zero l e))

  -- of those that are looked for
  module _ (q : A → Bool) where
    pub search_kept_none : none ≡ least before (keep q (map f (take 0 l)))
    unfolding least keep
    search_kept_none = refl

    pub search_kept_more : (i : ℕ) → i < length l → (best next : Option A) → best ≡ least before (keep q (map f (take i l)))
        → next ≡ looked before (q (f (get_or l i 0))) best (f (get_or l i 0)) → next ≡ least before (keep q (map f (take (i + 1) l)))
    search_kept_more i h best next so_far n =
        n
        ∙ ap (λ best. looked before (q (f (get_or l i 0))) best (f (get_or l i 0))) so_far
        ∙ sym (ap (λ m. least before (keep q m)) (images_more i h) ∙ least_more before q (map f (take i l)) (f (get_or l i 0)))
