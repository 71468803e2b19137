-- The mark of a piece by its size and the answer of its cut is the mark of its places, which the definition gives from the places alone.
use Prim.Native.Nat.{ℕ}
use mathlib.Core.Bool.{Bool, true, false, cond}
use mathlib.Core.List.{List, [], ◌∷◌, map}
use mathlib.Core.Path.{◌≡◌, refl, sym, ap, ap₂, ◌∙◌}
use lib.Dec.{ltb}
use lib.Ieee.{Float, lt}
use lib.ListN.{length, length-map}
use Rattle.std.specs.Prelude.{Option, None, Some}
use Rattle.lists.proofs.Rearranged.{perm_length}
use Rattle.cut.specs.Cut.{Chosen, fewer_than_two, none_allowed, allowed_cuts, pick, cut_of}
use Rattle.cut.specs.declared.candidate.Candidate.{Candidate}
use Rattle.options.specs.declared.Settings.{Settings}
use Rattle.grouping.specs.Tree.{Tree, member_at}
use Rattle.grouping.specs.Sizes.{sizes_at, item_size}
use Rattle.grouping.specs.Fate.{in_id_order, among}
use Rattle.grouping.specs.Mark.{cuts_allowed, why_above, mark_under, mark_of}
use Rattle.grouping_laws.proofs.Pieces.{Ascending}
use Rattle.settling.specs.Pieces.{Cutting, cut_in, why_whole, mark_in}
use Rattle.settling.proofs.Parts.{PartOf}
use Rattle.settling.proofs.SideOrder.{side_in_order, side_perm}
use Rattle.settling.proofs.SideSize.{Exact, side_size}
use Rattle.settling.proofs.PieceMap.{Written, large_map, cut_map}
use Rattle.settling.proofs.EndsPieces.{cutting_of}

-- ---- why modules above the maximum stay whole

by_count : (t : Bool) → cond t 1 2 ≡ why_whole (cond t fewer_than_two none_allowed)
by_count true = refl
by_count false = refl

why_cut : (count : ℕ) (maximum : Float) (cuts : List Candidate) → why_above count cuts ≡ why_whole (pick count maximum cuts)
unfolding pick
why_cut count maximum [] = by_count (ltb count 2)
why_cut count maximum (c ∷ cuts) = refl

module _ (r : Settings) (tree : Tree) where
  pub unlimited_mark : (places : List ℕ) → r.max_size ≡ None → mark_of r tree places ≡ 0
  unfolding mark_of
  unlimited_mark places e = ap (λ (limit : Option Float). mark_under limit r tree places) e

  module _ (maximum : Float) (limit : r.max_size ≡ Some maximum) where
    under : (places : List ℕ) → mark_of r tree places
        ≡ cond (lt maximum (item_size r tree places)) (why_above (length places) (cuts_allowed r tree places)) 0
    unfolding mark_of
    under places = ap (λ (l : Option Float). mark_under l r tree places) limit

    pub small_mark : (places : List ℕ) → lt maximum (item_size r tree places) ≡ false → mark_of r tree places ≡ 0
    small_mark places e =
        under places ∙ ap (λ (t : Bool). cond t (why_above (length places) (cuts_allowed r tree places)) 0) e

    -- ---- places whose id order is known

    module _ (places side : List ℕ) (order : in_id_order tree places ≡ side) (count : length places ≡ length side) where
      why_side : why_above (length places) (cuts_allowed r tree places) ≡ why_whole (cut_in (cutting_of r tree maximum) side)
      unfolding cuts_allowed cut_of
      why_side =
          ap₂ why_above (count ∙ sym (length-map side (λ p. (member_at tree p).id)))
          (ap (λ (l : List ℕ). allowed_cuts (map (λ p. (member_at tree p).id) l) (sizes_at r tree l) r.min_size) order)
          ∙ why_cut (length (map (λ p. (member_at tree p).id) side)) maximum
          (allowed_cuts (map (λ p. (member_at tree p).id) side) (sizes_at r tree side) r.min_size)

      side_mark : item_size r tree places ≡ item_size r tree side → mark_of r tree places ≡ mark_in (cutting_of r tree maximum) side
      unfolding item_size
      side_mark size = under places ∙ ap₂ (λ (x : Float) (why : ℕ). cond (lt maximum x) why 0) size why_side

    -- a piece of an item
    pub piece_mark : (places : List ℕ) → Exact r tree places → Ascending places → (side : List ℕ) → PartOf side (in_id_order tree places)
        → mark_of r tree (among side places) ≡ mark_in (cutting_of r tree maximum) side
    piece_mark places exact ascend side part =
        side_mark (among side places) side
        (side_in_order tree places ascend side part)
        (perm_length (side_perm tree places ascend side part))
        (side_size r tree places exact ascend side part)

-- the mark of a list whose elements are written as others
pub mark_map : (f : ℕ → ℕ) (c c' : Cutting) (l : List ℕ) → Written f c c' l → mark_in c' (map f l) ≡ mark_in c l
mark_map f c c' l w = ap₂ (λ (t : Bool) (x : Chosen). cond t (why_whole x) 0) (large_map f c c' l w) (cut_map f c c' l w)
