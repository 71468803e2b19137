-- An item that is neither empty nor below min_size ends as the places of the pieces of its id order. A piece reaches min_size, so that only
-- the first look at an item can drop it.
use Prim.Native.Nat.{ℕ, zero, suc, ◌≤◌, ◌<◌, ◌^◌}
use mathlib.Core.Bool.{Bool, true, false, not, false≢true}
use mathlib.Core.List.{List, [], ◌∷◌, ◌++◌, map, map-append}
use mathlib.Core.Path.{◌≡◌, refl, sym, ap, ap₂, ◌∙◌, subst}
use native.Mathlib.Omega.{arith}
use lib.Ieee.{Float, nan, inf, fin, is_nan, lt, le}
use lib.ListN.{length, take, drop, length-take, length-drop}
use Rattle.std.specs.Prelude.{Some}
use Rattle.lists.specs.Elem.{elem}
use Rattle.lists.specs.Sum.{sum}
use Rattle.lists.proofs.Elem.{mem_elem}
use Rattle.lists.proofs.Members.{map_same}
use Rattle.lists.proofs.Pairs.{pairs_keep}
use Rattle.lists.proofs.Rearranged.{perm_length}
use Rattle.whole.specs.Double.{to_f64, sum_f64}
use Rattle.whole.proofs.AnyDouble.{whole_below, whole_below_lem, at_least_not_below}
use Rattle.whole.proofs.Exact.{sum_exact}
use Rattle.cut.specs.Cut.{Chosen, fewer_than_two, none_allowed, cut}
use Rattle.cut.proofs.Answer.{NoCut, there_is_a_cut}
use Rattle.options.specs.declared.Settings.{Settings}
use Rattle.grouping.specs.Tree.{Tree, member_at}
use Rattle.grouping.specs.Sizes.{size_in, sizes_at, item_size}
use Rattle.grouping.specs.Fate.{Fate, in_id_order, among, parted_by, cut_fate, cut_if}
use Rattle.grouping_laws.proofs.Pieces.{Ascending}
use Rattle.settling.specs.Ends.{ends_by, ends_from, ends_of}
use Rattle.settling.specs.Pieces.{Cutting, cut_in, pieces_of}
use Rattle.lists.proofs.KeepTests.{keep_all}
use Rattle.lists.proofs.Parts.{map_take, map_drop}
use Rattle.settling.proofs.Parts.{PartOf, part_take, part_drop, part_mem}
use Rattle.settling.proofs.SideOrder.{ordered_length, mem_ordered, side_in_order, side_perm, among_among}
use Rattle.settling.proofs.SideSize.{Exact, keep_exact, ordered_size, side_size}
use Rattle.settling.proofs.Ends.{fate_standing}
use Rattle.settling.proofs.PieceBound.{too_large, cut_inside, pieces_small, pieces_uncut, pieces_cut}
use Rattle.settling.proofs.PieceParts.{pieces_parts}

-- what the id order of an item of these settings is cut by
abbrev pub cutting_of : Settings → Tree → Float → Cutting
cutting_of r tree maximum =
    record { id = λ p. (member_at tree p).id; size = λ p. size_in r (member_at tree p); minimum = r.min_size; maximum = maximum }

-- an item that is neither empty nor below min_size
pub record Standing (r : Settings) (tree : Tree) (places : List ℕ) : Type 0 where
  pub ascend : Ascending places
  pub exact : Exact r tree places
  pub some : 1 ≤ length places
  pub reaches : lt (item_size r tree places) r.min_size ≡ false

-- ---- a side that reaches the minimum

not_true : (b : Bool) → not b ≡ true → b ≡ false
not_true true e = absurd (false≢true e)
not_true false e = refl

-- a whole number that reaches a limit is not below it
reached : (n : ℕ) → n ≤ 2 ^ 53 → (x : Float) → le x (to_f64 n) ≡ true → lt (to_f64 n) x ≡ false
unfolding whole_below is_nan
reached n h nan e = whole_below_lem n h nan
reached n h (inf s) e = not_true (lt (to_f64 n) (inf s)) (sym (at_least_not_below n h (inf s) refl) ∙ e)
reached n h (fin s m k) e = not_true (lt (to_f64 n) (fin s m k)) (sym (at_least_not_below n h (fin s m k) refl) ∙ e)

module _ (r : Settings) (tree : Tree) (places : List ℕ) (s : Standing r tree places) where
  side_standing : (side : List ℕ) → PartOf side (in_id_order tree places) → 1 ≤ length side
      → le r.min_size (item_size r tree side) ≡ true → Standing r tree (among side places)
  unfolding item_size
  side_standing side part some reach =
      let exact = keep_exact r tree (λ p. elem p side) places s.exact in
      let sizes = sizes_at r tree (among side places) in
      let size : item_size r tree (among side places) ≡ to_f64 (sum sizes) = sum_exact sizes exact in
      let same = side_size r tree places s.exact s.ascend side part in
      record {
        ascend = pairs_keep (λ p. elem p side) s.ascend;
        exact = exact;
        some = rw (perm_length (side_perm tree places s.ascend side part)) some;
        reaches =
            ap (λ (x : Float). lt x r.min_size) size
            ∙ reached (sum sizes) exact r.min_size
            (ap (le r.min_size) (sym size ∙ same) ∙ reach);
      }

  among_all : among (in_id_order tree places) places ≡ places
  among_all = keep_all (λ p. elem p (in_id_order tree places)) places (λ p m. mem_elem p (mem_ordered tree places p m))

  -- both sides of a cut stand, and have fewer places
  module _ (maximum : Float) (i : ℕ) (left right : Float) (e : cut_in (cutting_of r tree maximum) (in_id_order tree places) ≡ cut i left right) where
    left_standing : Standing r tree (among (take i (in_id_order tree places)) places)
    unfolding item_size
    left_standing =
        let ordered = in_id_order tree places in
        let at = cut_inside (cutting_of r tree maximum) ordered i left right e in
        let a = there_is_a_cut (map (λ p. (member_at tree p).id) ordered) (sizes_at r tree ordered) r.min_size maximum i left right e in
        side_standing (take i ordered) (part_take i ordered) (simp length-take (omega (arith, at.from_one, at.inside)))
        (ap (λ (l : List ℕ). le r.min_size (sum_f64 l)) (map_take (λ p. size_in r (member_at tree p)) i ordered)
        ∙ ap (le r.min_size) (sym a.left)
        ∙ a.left_reaches)

    right_standing : Standing r tree (among (drop i (in_id_order tree places)) places)
    unfolding item_size
    right_standing =
        let ordered = in_id_order tree places in
        let at = cut_inside (cutting_of r tree maximum) ordered i left right e in
        let a = there_is_a_cut (map (λ p. (member_at tree p).id) ordered) (sizes_at r tree ordered) r.min_size maximum i left right e in
        side_standing (drop i ordered) (part_drop i ordered) (simp length-drop (omega (arith, at.inside)))
        (ap (λ (l : List ℕ). le r.min_size (sum_f64 l)) (map_drop (λ p. size_in r (member_at tree p)) i ordered)
        ∙ ap (le r.min_size) (sym a.right)
        ∙ a.right_reaches)

  side_shorter : (side : List ℕ) → PartOf side (in_id_order tree places) → length side < length (in_id_order tree places)
      → length (among side places) < length places
  side_shorter side part h = rw (perm_length (side_perm tree places s.ascend side part), ← ordered_length tree places) h

-- ---- the law

module _ (r : Settings) (tree : Tree) (maximum : Float) (limit : r.max_size ≡ Some maximum) where
  abbrev c : Cutting
  c = cutting_of r tree maximum

  large_standing : (places : List ℕ) → Standing r tree places → lt maximum (item_size r tree places) ≡ too_large c (in_id_order tree places)
  unfolding item_size
  large_standing places s = ap (lt maximum) (sym (ordered_size r tree places s.exact))

  ends_from_lem : (most : ℕ) (places : List ℕ) → Standing r tree places → length places < most
      → ends_from most r tree places ≡ map (λ piece. among piece places) (pieces_of c (in_id_order tree places))
  unfolding ends_from cut_fate
  ends_from_lem zero places s h = absurd (omega arith)
  ends_from_lem (suc most) places s h =
      ap (λ (fate : Fate). ends_by (ends_from most r tree) fate places)
      (fate_standing r tree maximum limit places s.some s.reaches ∙ ap (λ (b : Bool). cut_if b r tree maximum places) (large_standing places s))
      ∙ go (too_large c (in_id_order tree places)) refl (λ k t u. ends_from_lem most k t (omega arith))
    where
      ordered : List ℕ
      ordered = in_id_order tree places

      Again : Type 0
      Again =
          (k : List ℕ) → Standing r tree k → length k < length places
          → ends_from most r tree k ≡ map (λ piece. among piece k) (pieces_of c (in_id_order tree k))

      whole : pieces_of c ordered ≡ ordered ∷ [] → places ∷ [] ≡ map (λ piece. among piece places) (pieces_of c ordered)
      whole q = sym (ap (map (λ piece. among piece places)) q ∙ ap (λ (l : List ℕ). l ∷ []) (among_all r tree places s))

      of_side : (side : List ℕ) → PartOf side ordered → Standing r tree (among side places) → length side < length ordered → Again
          → ends_from most r tree (among side places) ≡ map (λ piece. among piece places) (pieces_of c side)
      of_side side part t u again =
          again (among side places) t (side_shorter r tree places s side part u)
          ∙ ap (λ (l : List ℕ). map (λ piece. among piece (among side places)) (pieces_of c l)) (side_in_order tree places s.ascend side part)
          ∙ map_same (λ piece. among piece (among side places)) (λ piece. among piece places) (pieces_of c side)
          (λ piece m. among_among piece side places (part_mem (pieces_parts c side piece m)))

      by_cut : (x : Chosen) → cut_in c ordered ≡ x → too_large c ordered ≡ true → Again
          → ends_by (ends_from most r tree) (parted_by places ordered x) places ≡ map (λ piece. among piece places) (pieces_of c ordered)
      by_cut fewer_than_two q e again = whole (pieces_uncut c ordered (subst NoCut (sym q) tt))
      by_cut none_allowed q e again = whole (pieces_uncut c ordered (subst NoCut (sym q) tt))
      by_cut (cut i left right) q e again =
          let at = cut_inside c ordered i left right q in
          ap₂ (λ (u v : List (List ℕ)). u ++ v)
          (of_side (drop i ordered) (part_drop i ordered) (right_standing r tree places s maximum i left right q)
          (simp length-drop (omega (arith, at.from_one, at.inside))) again)
          (of_side (take i ordered) (part_take i ordered) (left_standing r tree places s maximum i left right q)
          (simp length-take (omega (arith, at.inside))) again)
          ∙ sym (ap (map (λ piece. among piece places)) (pieces_cut c ordered i left right e q)
          ∙ map-append (λ piece. among piece places) (pieces_of c (drop i ordered)) (pieces_of c (take i ordered)))

      go : (b : Bool) → too_large c ordered ≡ b → Again
          → ends_by (ends_from most r tree) (cut_if b r tree maximum places) places ≡ map (λ piece. among piece places) (pieces_of c ordered)
      go true e again = by_cut (cut_in c ordered) refl e again
      go false e again = whole (pieces_small c ordered e)

  pub ends_pieces : (places : List ℕ) → Standing r tree places
      → ends_of r tree places ≡ map (λ piece. among piece places) (pieces_of (cutting_of r tree maximum) (in_id_order tree places))
  unfolding ends_of
  ends_pieces places s = ends_from_lem (suc (length places)) places s (omega arith)
