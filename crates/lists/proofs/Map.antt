-- Images of a list: what stands at a place, and a table as the image of its places.
use Prim.Native.Nat.{ℕ, zero, suc, ◌<◌}
use mathlib.Core.List.{List, [], ◌∷◌, map}
use mathlib.Core.Path.{◌≡◌, refl, ap, ◌∙◌}
use native.Mathlib.Nat.{not-suc-le-zero, le_of_suc-le-suc, zero-add}
use lib.ListN.{length, get_or, length-map}
use lib.Seq.{ext_get_or}
use Rattle.lists.specs.Range.{range}
use Rattle.lists.proofs.Range.{length_range, get_or_range}

-- within the list the default does not matter
pub get_or_map_below : {A B : Type 0} (f : A → B) (l : List A) (i : ℕ) (b : B) (a : A) → i < length l → get_or (map f l) i b ≡ f (get_or l i a)
get_or_map_below f [] i b a h = absurd (not-suc-le-zero h)
get_or_map_below f (x ∷ l) zero b a h = refl
get_or_map_below f (x ∷ l) (suc i) b a h = get_or_map_below f l i b a (le_of_suc-le-suc h)

-- what a function has for a place
pub get_or_map_range : {A : Type 0} (f : ℕ → A) (n i : ℕ) (d : A) → i < n → get_or (map f (range 0 n)) i d ≡ f i
get_or_map_range f n i d h = get_or_map_below f (range 0 n) i d 0 (rw (length_range 0 n) h) ∙ ap f (get_or_range 0 n i 0 h ∙ zero-add i)

-- a table read at each of its places, in order, is the table
pub map_get_or_range : {A : Type 0} (l : List A) (d : A) → map (λ k. get_or l k d) (range 0 (length l)) ≡ l
map_get_or_range l d = ext_get_or d (map (λ k. get_or l k d) (range 0 (length l))) l same at
  where
    same : length (map (λ k. get_or l k d) (range 0 (length l))) ≡ length l
    same = length-map (range 0 (length l)) (λ k. get_or l k d) ∙ length_range 0 (length l)

    at : (i : ℕ) → i < length (map (λ k. get_or l k d) (range 0 (length l))) → get_or (map (λ k. get_or l k d) (range 0 (length l))) i d ≡ get_or l i d
    at i h =
        let b : i < length l = rw (same) at h in
        get_or_map_range (λ k. get_or l k d) (length l) i d b
