-- The pieces of an oversized list in id order, whatever its elements are (places or modules): parts of that list, from its end to its start.
use Rattle.std.specs.Prelude.{ℕ, zero, suc, Bool, true, false, cond, List, [], ◌∷◌, ◌++◌, map, Float, length, take, drop}
use Rattle.std.specs.Float.Ieee.{lt}
use Rattle.whole.specs.Double.{sum_f64}
use Rattle.cut.specs.Cut.{Chosen, fewer_than_two, none_allowed, cut, cut_of}

-- what a list is cut by: the id and the size of each element, the least size of a side and the largest size of a piece
pub record Cutting : Type 0 where
  pub id : ℕ → List ℕ
  pub size : ℕ → ℕ
  pub minimum : Float
  pub maximum : Float

-- the cut of a list
abbrev pub cut_in : Cutting → List ℕ → Chosen
cut_in c l = cut_of (map c.id l) (map c.size l) c.minimum c.maximum

abbrev pub pieces_by : (List ℕ → List (List ℕ)) → Chosen → List ℕ → List (List ℕ)
pieces_by again fewer_than_two l = l ∷ []
pieces_by again none_allowed l = l ∷ []
pieces_by again (cut i left right) l = again (drop i l) ++ again (take i l)

abbrev pub pieces_if : Bool → (List ℕ → List (List ℕ)) → Cutting → List ℕ → List (List ℕ)
pieces_if true again c l = pieces_by again (cut_in c l) l
pieces_if false again c l = l ∷ []

-- at most so many cuts deep
unfoldable pub pieces_from : ℕ → Cutting → List ℕ → List (List ℕ)
unfolding lt sum_f64 cut_of
pieces_from zero c l = []
pieces_from (suc most) c l = pieces_if (lt c.maximum (sum_f64 (map c.size l))) (pieces_from most c) c l

-- both sides of a cut are shorter, so that the bound cuts nothing short
unfoldable pub pieces_of : Cutting → List ℕ → List (List ℕ)
unfolding pieces_from
pieces_of c l = pieces_from (suc (length l)) c l

-- the mark of what is above the maximum, by the answer of its cut
abbrev pub why_whole : Chosen → ℕ
why_whole fewer_than_two = 1
why_whole none_allowed = 2
why_whole (cut i left right) = 3

-- the mark by a size and the answer of the cut
abbrev pub mark_by : Float → Float → Chosen → ℕ
mark_by maximum size answer = cond (lt maximum size) (why_whole answer) 0

-- the mark of a list
abbrev pub mark_in : Cutting → List ℕ → ℕ
mark_in c l = mark_by c.maximum (sum_f64 (map c.size l)) (cut_in c l)
