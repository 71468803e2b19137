-- The pieces of a list without the bound: a larger one changes nothing, what becomes of a list by its size and its cut, and what holds of
-- the pieces of every list.
use Prim.Native.Nat.{ℕ, zero, suc, ◌≤◌, ◌<◌}
use mathlib.Core.Bool.{Bool, true, false}
use mathlib.Core.List.{List, [], ◌∷◌, ◌++◌, map}
use mathlib.Core.Path.{◌≡◌, refl, ap₂, ◌∙◌}
use native.Mathlib.Omega.{arith}
use lib.Ieee.{Float, lt}
use lib.ListN.{length, take, drop, length-take, length-drop, length-map}
use Rattle.whole.specs.Double.{sum_f64}
use Rattle.cut.specs.Cut.{Chosen, fewer_than_two, none_allowed, cut}
use Rattle.cut.proofs.Answer.{NoCut, there_is_a_cut}
use Rattle.settling.specs.Pieces.{Cutting, cut_in, pieces_by, pieces_if, pieces_from, pieces_of}

-- a list is above the maximum
abbrev pub too_large : Cutting → List ℕ → Bool
too_large c l = lt c.maximum (sum_f64 (map c.size l))

-- where a list is cut there is something on either side
pub record Inside (i : ℕ) (l : List ℕ) : Type 0 where
  pub from_one : 1 ≤ i
  pub inside : i < length l

pub cut_inside : (c : Cutting) (l : List ℕ) (i : ℕ) (left right : Float) → cut_in c l ≡ cut i left right → Inside i l
cut_inside c l i left right e =
    let a = there_is_a_cut (map c.id l) (map c.size l) c.minimum c.maximum i left right e in
    record { from_one = a.from_one; inside = rw (length-map l c.id) at a.inside }

take_shorter : (i : ℕ) (l : List ℕ) → Inside i l → length (take i l) < length l
take_shorter i l h = simp length-take (omega (arith, h.inside))

drop_shorter : (i : ℕ) (l : List ℕ) → Inside i l → length (drop i l) < length l
drop_shorter i l h = simp length-drop (omega (arith, h.inside, h.from_one))

-- ---- a property that a list which stays whole has, and that a list has if both of its sides have it

module _ (c : Cutting) (P : List ℕ → List (List ℕ) → Type 0) (whole : (l : List ℕ) → P l (l ∷ []))
    (parted : (l : List ℕ) (i : ℕ) → Inside i l → (ps qs : List (List ℕ)) → P (drop i l) ps → P (take i l) qs → P l (ps ++ qs)) where
  of_pieces : (most : ℕ) (l : List ℕ) → length l < most → P l (pieces_from most c l)
  unfolding pieces_from
  of_pieces zero l h = absurd (omega arith)
  of_pieces (suc most) l h = go (too_large c l) (λ k u. of_pieces most k (omega arith))
    where
      by_cut : (x : Chosen) → cut_in c l ≡ x → ((k : List ℕ) → length k < length l → P k (pieces_from most c k)) → P l (pieces_by (pieces_from most c) x l)
      by_cut fewer_than_two e again = whole l
      by_cut none_allowed e again = whole l
      by_cut (cut i left right) e again =
          let at = cut_inside c l i left right e in
          parted l i at (pieces_from most c (drop i l)) (pieces_from most c (take i l))
          (again (drop i l) (drop_shorter i l at))
          (again (take i l) (take_shorter i l at))

      go : (b : Bool) → ((k : List ℕ) → length k < length l → P k (pieces_from most c k)) → P l (pieces_if b (pieces_from most c) c l)
      go true again = by_cut (cut_in c l) refl again
      go false again = whole l

  pub by_pieces : (l : List ℕ) → P l (pieces_of c l)
  unfolding pieces_of
  by_pieces l = of_pieces (suc (length l)) l (omega arith)

-- ---- the bound

module _ (c : Cutting) where
  same_bound : (m n : ℕ) (l : List ℕ) → length l < m → length l < n → pieces_from m c l ≡ pieces_from n c l
  unfolding pieces_from
  same_bound zero n l h k = absurd (omega arith)
  same_bound (suc m) zero l h k = absurd (omega arith)
  same_bound (suc m) (suc n) l h k = go (too_large c l) (λ t u. same_bound m n t (omega arith) (omega arith))
    where
      by_cut : (x : Chosen) → cut_in c l ≡ x → ((t : List ℕ) → length t < length l → pieces_from m c t ≡ pieces_from n c t)
          → pieces_by (pieces_from m c) x l ≡ pieces_by (pieces_from n c) x l
      by_cut fewer_than_two e again = refl
      by_cut none_allowed e again = refl
      by_cut (cut i left right) e again =
          let at = cut_inside c l i left right e in
          ap₂ (λ (u v : List (List ℕ)). u ++ v) (again (drop i l) (drop_shorter i l at)) (again (take i l) (take_shorter i l at))

      go : (b : Bool) → ((t : List ℕ) → length t < length l → pieces_from m c t ≡ pieces_from n c t)
          → pieces_if b (pieces_from m c) c l ≡ pieces_if b (pieces_from n c) c l
      go true again = by_cut (cut_in c l) refl again
      go false again = refl

  pub pieces_enough : (most : ℕ) (l : List ℕ) → length l < most → pieces_from most c l ≡ pieces_of c l
  unfolding pieces_of
  pieces_enough most l h = same_bound most (suc (length l)) l h (omega arith)

  -- ---- one look at a list

  pub pieces_small : (l : List ℕ) → too_large c l ≡ false → pieces_of c l ≡ l ∷ []
  unfolding pieces_of pieces_from
  pieces_small l e = rw e

  uncut : (x : Chosen) (l : List ℕ) → NoCut x → pieces_by (pieces_from (length l) c) x l ≡ l ∷ []
  uncut fewer_than_two l h = refl
  uncut none_allowed l h = refl
  uncut (cut i left right) l h = absurd h

  pub pieces_uncut : (l : List ℕ) → NoCut (cut_in c l) → pieces_of c l ≡ l ∷ []
  unfolding pieces_of pieces_from
  pieces_uncut l h = go (too_large c l)
    where
      go : (b : Bool) → pieces_if b (pieces_from (length l) c) c l ≡ l ∷ []
      go true = uncut (cut_in c l) l h
      go false = refl

  looked : (l : List ℕ) (i : ℕ) (left right : Float) → too_large c l ≡ true → cut_in c l ≡ cut i left right
      → pieces_of c l ≡ pieces_from (length l) c (drop i l) ++ pieces_from (length l) c (take i l)
  unfolding pieces_of pieces_from
  looked l i left right e q = rw (e, q)

  pub pieces_cut : (l : List ℕ) (i : ℕ) (left right : Float) → too_large c l ≡ true → cut_in c l ≡ cut i left right
      → pieces_of c l ≡ pieces_of c (drop i l) ++ pieces_of c (take i l)
  pieces_cut l i left right e q =
      let at = cut_inside c l i left right q in
      looked l i left right e q
      ∙ ap₂ (λ (u v : List (List ℕ)). u ++ v)
      (pieces_enough (length l) (drop i l) (drop_shorter i l at))
      (pieces_enough (length l) (take i l) (take_shorter i l at))
