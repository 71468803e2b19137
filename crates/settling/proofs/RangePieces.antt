-- A loop that finds the pieces of a list with a stack of starts: what holds on each turn, that one look keeps it, and what has been found
-- once the stack is empty. A turn looks at the top part, l[top..end]; a piece that is taken off ends where the pieces found before it begin.
use Prim.Native.Nat.{ℕ, ◌+◌, ◌-◌, ◌≤◌, ◌<◌}
use mathlib.Core.Bool.{true, false}
use mathlib.Core.List.{List, [], ◌∷◌, ◌++◌, append_assoc, append-nil}
use mathlib.Core.Path.{◌≡◌, sym, ap, ◌∙◌}
use native.Mathlib.Omega.{arith}
use lib.Ieee.{Float}
use lib.ListN.{length, get_or, set, length-set}
use lib.Seq.{slice, length-slice}
use Rattle.cut.specs.Cut.{cut}
use Rattle.cut.proofs.Answer.{NoCut}
use Rattle.settling.specs.Pieces.{Cutting, cut_in, pieces_of}
use Rattle.settling.proofs.PieceBound.{too_large, cut_inside}
use Rattle.settling.proofs.PieceStack.{todo, todo_start, todo_end, todo_small, todo_uncut, todo_cut}
use Rattle.settling.proofs.RangeStack.{pending, pending_none, pending_start, pending_top, pending_cut, top_of}
use Rattle.settling.proofs.RangeStack.{Rises, rises_depth, rises_start, rises_top, rises_cut}

-- `found` are the pieces found so far; a stack as long as the list has room for all starts
pub record Looking (c : Cutting) (l starts : List ℕ) (end depth : ℕ) (found : List (List ℕ)) : Type 0 where
  pub pieces : found ++ todo c (pending l starts end depth) ≡ pieces_of c l
  pub rises : Rises starts end depth
  pub within : end ≤ length l
  pub room : length l ≤ length starts

-- the part to be looked at
abbrev pub top_part : List ℕ → List ℕ → ℕ → ℕ → List ℕ
top_part l starts end depth = slice (top_of starts depth) end l

module _ (c : Cutting) (l starts : List ℕ) where
  pub looking_start : get_or starts 0 0 ≡ 0 → 1 ≤ length l → length l ≤ length starts → Looking c l starts (length l) 1 []
  looking_start e some room =
      record {
        pieces = ap (todo c) (pending_start l starts e) ∙ todo_start c l;
        rises = rises_start l starts e some;
        within = omega arith;
        room = room;
      }

  pub looking_end : (end : ℕ) (found : List (List ℕ)) → Looking c l starts end 0 found → found ≡ pieces_of c l
  looking_end end found s =
      sym (ap (λ (ps : List (List ℕ)). found ++ ps) (ap (todo c) (pending_none l starts end) ∙ todo_end c) ∙ append-nil found) ∙ s.pieces

  module _ (end depth : ℕ) (found : List (List ℕ)) (some : 1 ≤ depth) (s : Looking c l starts end depth found) where
    -- the top part is not empty
    pub top_below : top_of starts depth < end
    top_below = (rises_top l starts end depth some s.rises).0

    pub top_deep : depth ≤ top_of starts depth + 1
    top_deep = omega (arith, rises_depth starts (top_of starts depth) (depth - 1) (rises_top l starts end depth some s.rises).1)

    -- ---- the top part is a piece

    taken : todo c (top_part l starts end depth ∷ pending l starts (top_of starts depth) (depth - 1))
        ≡ top_part l starts end depth ∷ todo c (pending l starts (top_of starts depth) (depth - 1))
        → Looking c l starts (top_of starts depth) (depth - 1) (found ++ (top_part l starts end depth ∷ []))
    taken e =
        record {
          pieces =
              append_assoc found (top_part l starts end depth ∷ []) (todo c (pending l starts (top_of starts depth) (depth - 1)))
              ∙ ap (λ (ps : List (List ℕ)). found ++ ps) (sym (ap (todo c) (pending_top l starts end depth some) ∙ e))
              ∙ s.pieces;
          rises = (rises_top l starts end depth some s.rises).1;
          within = omega (arith, top_below, s.within);
          room = s.room;
        }

    pub looking_small : too_large c (top_part l starts end depth) ≡ false
        → Looking c l starts (top_of starts depth) (depth - 1) (found ++ (top_part l starts end depth ∷ []))
    looking_small e = taken (todo_small c (top_part l starts end depth) (pending l starts (top_of starts depth) (depth - 1)) e)

    pub looking_uncut : NoCut (cut_in c (top_part l starts end depth))
        → Looking c l starts (top_of starts depth) (depth - 1) (found ++ (top_part l starts end depth ∷ []))
    looking_uncut e = taken (todo_uncut c (top_part l starts end depth) (pending l starts (top_of starts depth) (depth - 1)) e)

    -- ---- the top part is cut

    module _ (i : ℕ) (left right : Float) (q : cut_in c (top_part l starts end depth) ≡ cut i left right) where
      pub cut_from_one : 1 ≤ i
      cut_from_one = (cut_inside c (top_part l starts end depth) i left right q).from_one

      pub cut_below : top_of starts depth + i < end
      cut_below =
          let inside : i < end - top_of starts depth =
          rw (length-slice (top_of starts depth) end l s.within) at (cut_inside c (top_part l starts end depth) i left right q).inside in
          omega arith

      -- there is room for the start of the right side
      pub cut_room : depth < length starts
      cut_room = omega (arith, cut_from_one, cut_below, top_deep, s.within, s.room)

      pub looking_cut : too_large c (top_part l starts end depth) ≡ true
          → Looking c l (set starts depth (top_of starts depth + i)) end (depth + 1) found
      looking_cut e =
          record {
            pieces =
                ap (λ (ps : List (List ℕ)). found ++ ps)
                (ap (todo c) (pending_cut l starts end depth i some cut_room (omega (arith, cut_below)))
                ∙ sym (ap (todo c) (pending_top l starts end depth some)
                ∙ todo_cut c (top_part l starts end depth) (pending l starts (top_of starts depth) (depth - 1)) i left right e q))
                ∙ s.pieces;
            rises = rises_cut l starts end depth i some cut_room s.within (cut_inside c (top_part l starts end depth) i left right q) s.rises;
            within = s.within;
            room = rw (length-set starts depth (top_of starts depth + i)) s.room;
          }
