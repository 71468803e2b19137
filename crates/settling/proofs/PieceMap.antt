-- Pieces of a list whose elements are written as others, with the same ids and sizes: they are the pieces, written so.
use Prim.Native.Nat.{ℕ, zero, suc}
use mathlib.Core.Bool.{Bool, true, false}
use mathlib.Core.List.{List, ◌++◌, map, map-map, map-append, Memᴰ}
use mathlib.Core.Path.{◌≡◌, refl, sym, ap, ap₂, ◌∙◌}
use lib.Ieee.{Float, lt}
use lib.ListN.{length, take, drop, length-map}
use Rattle.lists.proofs.Members.{map_same}
use Rattle.whole.specs.Double.{sum_f64}
use Rattle.cut.specs.Cut.{Chosen, fewer_than_two, none_allowed, cut, cut_of}
use Rattle.settling.specs.Pieces.{Cutting, cut_in, pieces_by, pieces_if, pieces_from, pieces_of}
use Rattle.lists.proofs.Parts.{map_take, map_drop, take_mem, drop_mem}
use Rattle.settling.proofs.PieceBound.{too_large}

-- element p under c is element f p under c'
pub record Written (f : ℕ → ℕ) (c c' : Cutting) (l : List ℕ) : Type 0 where
  pub ids : (p : ℕ) → Memᴰ p l → c.id p ≡ c'.id (f p)
  pub sizes : (p : ℕ) → Memᴰ p l → c.size p ≡ c'.size (f p)
  pub minimum : c.minimum ≡ c'.minimum
  pub maximum : c.maximum ≡ c'.maximum

module _ (f : ℕ → ℕ) (c c' : Cutting) where
  written_part : (l k : List ℕ) → ((p : ℕ) → Memᴰ p k → Memᴰ p l) → Written f c c' l → Written f c c' k
  written_part l k within w =
      record { ids = λ p m. w.ids p (within p m); sizes = λ p m. w.sizes p (within p m); minimum = w.minimum; maximum = w.maximum }

  images : {A : Type 0} (g g' : ℕ → A) (l : List ℕ) → ((p : ℕ) → Memᴰ p l → g p ≡ g' (f p)) → map g' (map f l) ≡ map g l
  images g g' l h = map-map g' f l ∙ sym (map_same g (λ p. g' (f p)) l h)

  pub large_map : (l : List ℕ) → Written f c c' l → too_large c' (map f l) ≡ too_large c l
  large_map l w = ap₂ (λ (x : Float) (sizes : List ℕ). lt x (sum_f64 sizes)) (sym w.maximum) (images c.size c'.size l w.sizes)

  pub cut_map : (l : List ℕ) → Written f c c' l → cut_in c' (map f l) ≡ cut_in c l
  cut_map l w =
      ap₂ (λ (ids : List (List ℕ)) (sizes : List ℕ). cut_of ids sizes c'.minimum c'.maximum)
      (images c.id c'.id l w.ids)
      (images c.size c'.size l w.sizes)
      ∙ ap₂ (λ (x y : Float). cut_of (map c.id l) (map c.size l) x y) (sym w.minimum) (sym w.maximum)

  from_map : (most : ℕ) (l : List ℕ) → Written f c c' l → pieces_from most c' (map f l) ≡ map (map f) (pieces_from most c l)
  unfolding pieces_from
  from_map zero l w = refl
  from_map (suc most) l w =
      ap (λ (b : Bool). pieces_if b (pieces_from most c') c' (map f l)) (large_map l w)
      ∙ go (too_large c l) (λ k within. from_map most k (written_part l k within w))
    where
      Again : Type 0
      Again = (k : List ℕ) → ((p : ℕ) → Memᴰ p k → Memᴰ p l) → pieces_from most c' (map f k) ≡ map (map f) (pieces_from most c k)

      by_cut : (x : Chosen) → Again → pieces_by (pieces_from most c') x (map f l) ≡ map (map f) (pieces_by (pieces_from most c) x l)
      by_cut fewer_than_two again = refl
      by_cut none_allowed again = refl
      by_cut (cut i left right) again =
          ap₂ (λ (u v : List (List ℕ)). u ++ v)
          (ap (pieces_from most c') (sym (map_drop f i l)) ∙ again (drop i l) (λ p m. drop_mem i l m))
          (ap (pieces_from most c') (sym (map_take f i l)) ∙ again (take i l) (λ p m. take_mem i l m))
          ∙ sym (map-append (map f) (pieces_from most c (drop i l)) (pieces_from most c (take i l)))

      go : (b : Bool) → Again → pieces_if b (pieces_from most c') c' (map f l) ≡ map (map f) (pieces_if b (pieces_from most c) c l)
      go true again = ap (λ (x : Chosen). pieces_by (pieces_from most c') x (map f l)) (cut_map l w) ∙ by_cut (cut_in c l) again
      go false again = refl

  pub pieces_map : (l : List ℕ) → Written f c c' l → pieces_of c' (map f l) ≡ map (map f) (pieces_of c l)
  unfolding pieces_of
  pieces_map l w = ap (λ (n : ℕ). pieces_from (suc n) c' (map f l)) (length-map l f) ∙ from_map (suc (length l)) l w
