-- The pieces of a list by a loop that keeps parts which are still to be looked at, the next one first: one look takes a part off as a piece,
-- or puts its two sides in its place, the right one first.
use Prim.Native.Nat.{ℕ}
use mathlib.Core.Bool.{true, false}
use mathlib.Core.List.{List, [], ◌∷◌, ◌++◌, append_assoc, append-nil}
use mathlib.Core.Path.{◌≡◌, refl, ap, ◌∙◌}
use lib.Ieee.{Float}
use lib.ListN.{take, drop}
use Rattle.cut.specs.Cut.{cut}
use Rattle.cut.proofs.Answer.{NoCut}
use Rattle.settling.specs.Pieces.{Cutting, cut_in, pieces_of}
use Rattle.settling.proofs.PieceBound.{too_large, pieces_small, pieces_uncut, pieces_cut}

-- the pieces of the parts that are still to be looked at
unfoldable pub todo : Cutting → List (List ℕ) → List (List ℕ)
unfolding pieces_of
todo c [] = []
todo c (p ∷ ps) = pieces_of c p ++ todo c ps

module _ (c : Cutting) where
  pub todo_start : (l : List ℕ) → todo c (l ∷ []) ≡ pieces_of c l
  unfolding todo
  todo_start l = append-nil (pieces_of c l)

  pub todo_end : todo c [] ≡ []
  unfolding todo
  todo_end = refl

  module _ (p : List ℕ) (ps : List (List ℕ)) where
    -- at most the maximum
    pub todo_small : too_large c p ≡ false → todo c (p ∷ ps) ≡ p ∷ todo c ps
    unfolding todo
    todo_small e = ap (λ (l : List (List ℕ)). l ++ todo c ps) (pieces_small c p e)

    -- no cut is allowed
    pub todo_uncut : NoCut (cut_in c p) → todo c (p ∷ ps) ≡ p ∷ todo c ps
    unfolding todo
    todo_uncut e = ap (λ (l : List (List ℕ)). l ++ todo c ps) (pieces_uncut c p e)

    pub todo_cut : (i : ℕ) (left right : Float) → too_large c p ≡ true → cut_in c p ≡ cut i left right
        → todo c (p ∷ ps) ≡ todo c (drop i p ∷ take i p ∷ ps)
    unfolding todo
    todo_cut i left right e q =
        ap (λ (l : List (List ℕ)). l ++ todo c ps) (pieces_cut c p i left right e q)
        ∙ append_assoc (pieces_of c (drop i p)) (pieces_of c (take i p)) (todo c ps)
