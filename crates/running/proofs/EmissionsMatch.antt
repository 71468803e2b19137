-- The chunks that an item's modules are emitted as match the chunks that its places end as: none, one of all, or one for each piece.
use Prim.Native.Nat.{ℕ, ◌≤◌}
use mathlib.Core.Bool.{Bool, true, false}
use mathlib.Core.List.Permᴰ
use mathlib.Core.List.{List, [], ◌∷◌, map, map-map, Memᴰ}
use mathlib.Core.Path.{◌≡◌, refl, sym, ap, ap₂, ◌∙◌, subst}
use native.Mathlib.Omega.{arith}
use lib.Ieee.{Float, lt}
use lib.ListN.{length}
use Rattle.std.specs.Bool.{then_some}
use Rattle.std.specs.Prelude.{Option, None, Some}
use Rattle.lists.proofs.Rearranged.{perm_mem}
use Rattle.whole.specs.Double.{sum_f64}
use Rattle.cut.specs.Order.{sizes_in}
use Rattle.options.specs.declared.Settings.{Settings}
use Rattle.grouping.specs.Given as goal
use Rattle.grouping.specs.Tree.{Tree, places_of, tree_of}
use Rattle.grouping.specs.Item.{Item, with_places}
use Rattle.grouping.specs.Sizes.{item_size}
use Rattle.grouping.specs.Fate.{in_id_order, among}
use Rattle.grouping.specs.Mark.{mark_of}
use Rattle.grouping.specs.ChunkList.{Chunk, chunk_from}
use Rattle.grouping_laws.proofs.SetPlaces.{Placed}
use Rattle.settling.specs.Ends.{ends_of}
use Rattle.settling.specs.Pieces.{Cutting, pieces_of, mark_in}
use Rattle.settling.specs.Modules.{module_at, modules_at}
use Rattle.settling.specs.Settled.{chunks_from}
use Rattle.settling.proofs.Parts.{PartOf, part_mem}
use Rattle.settling.proofs.SideOrder.{ordered_mem, side_perm}
use Rattle.settling.proofs.SideSize.{side_size}
use Rattle.settling.proofs.SideUnion.{side_union}
use Rattle.settling.proofs.PieceMap.{Written, pieces_map}
use Rattle.settling.proofs.PieceMarks.{unlimited_mark, small_mark, piece_mark, mark_map}
use Rattle.settling.proofs.PieceParts.{pieces_parts}
use Rattle.settling.proofs.Ends.{ends_empty, ends_dropped, ends_unlimited, ends_small}
use Rattle.settling.proofs.EndsPieces.{cutting_of, Standing, ends_pieces}
use Rattle.oversized.specs.Cutting as modules
use Rattle.emitting.specs.Emitted.{Emission}
use Rattle.emitting.specs.declared.emit.Head.{Head}
use Rattle.linking.specs.Made.{AllMatch, none, more}
use Rattle.items.specs.declared.convert.Limits.{Limits}
use Rattle.running.specs.Fits.{ItemFits, HeadOf, LimitsOf}
use Rattle.pieces.specs.Chunks.{chunk_of}
use Rattle.items.specs.Turn.{Tables, in_pieces, emitted_over, emitted_within, emitted_unless, emitted_from}
use Rattle.running.proofs.ModulesAt.{id_at_lem, size_at, size_of_modules, places_exact}
use Rattle.running.proofs.ByRanks.{by_ranks}
use Rattle.running.proofs.ChunkMatches.{SamePlaces, same_self, matches, all_match}

-- the tables of a build, with ranks
abbrev tables_of : goal.Given → List ℕ → Tables
tables_of b rank = record { bytes = b.shared.bytes; offsets = b.shared.offsets; sizes = b.shared.sizes; rank = rank }

-- the limits of a group
abbrev limits_of : Settings → Limits
limits_of r = record { minimum = r.min_size; maximum = r.max_size }

tables_are : (b : goal.Given) (t : Tables) (bits : List ℕ) → ItemFits b t bits → t ≡ tables_of b t.rank
tables_are b t bits fits = rw (← fits.bytes, ← fits.offsets, ← fits.sizes)

limits_are : (r : Settings) (l : Limits) → LimitsOf r l → l ≡ limits_of r
limits_are r l h = rw (← h.minimum, ← h.maximum)

module _ (b : goal.Given) (t : Tables) (bits : List ℕ) (fits : ItemFits b t bits) (i : Item) (head : Head) (h : HeadOf i head)
    (places : List ℕ) (placed : Placed (length (places_of b)) places) where
  abbrev r : Settings
  r = i.settings

  abbrev tree : Tree
  tree = tree_of b

  abbrev tables : Tables
  tables = tables_of b t.rank

  -- the chunks of the definition
  abbrev ended : List Chunk
  ended = chunks_from tree i (ends_of r tree places)

  total : sum_f64 (sizes_in b.shared.sizes (modules_at b places)) ≡ item_size r tree places
  total = size_of_modules b r places placed.below

  as_whole : ends_of r tree places ≡ places ∷ [] → mark_of r tree places ≡ 0 → AllMatch b (chunk_of b.shared.sizes head 0 (modules_at b places) ∷ []) ended
  unfolding chunks_from
  as_whole e within =
      subst (λ (ends : List (List ℕ)). AllMatch b (chunk_of b.shared.sizes head 0 (modules_at b places) ∷ []) (chunks_from tree i ends)) (sym e)
      (more (matches b fits.passed i head h places places placed.below (same_self i tree places) 0 (sym within)) none)

  -- ---- pieces

  side_same : (side : List ℕ) → PartOf side (in_id_order tree places) → SamePlaces i tree (among side places) side
  side_same side part =
      let perm = side_perm tree places placed.ascend side part in
      record {
        size = side_size r tree places (places_exact b fits.passed r places placed) placed.ascend side part;
        union = side_union tree places placed.ascend side part;
        there = perm_mem (Permᴰ.symm perm);
        back = perm_mem perm;
      }

  module _ (maximum : Float) where
    -- the pieces of the places in id order
    abbrev pieces : List (List ℕ)
    pieces = pieces_of (cutting_of r tree maximum) (in_id_order tree places)

    abbrev cutting : Cutting
    cutting = modules.cutting_of b.shared.bytes b.shared.offsets b.shared.sizes r.min_size maximum

    abbrev piece_emitted : List ℕ → Emission
    piece_emitted side = chunk_of b.shared.sizes head (mark_in cutting (modules_at b side)) (modules_at b side)

    abbrev piece_chunk : List ℕ → Chunk
    piece_chunk side = chunk_from tree (with_places (among side places) i)

    -- places in id order, written as modules
    written : (l : List ℕ) → ((p : ℕ) → Memᴰ p l → Memᴰ p (in_id_order tree places)) → Written (module_at b) (cutting_of r tree maximum) cutting l
    written l there =
        record {
          ids = λ p m. id_at_lem b p (placed.below p (ordered_mem tree places p (there p m)));
          sizes = λ p m. size_at b p (placed.below p (ordered_mem tree places p (there p m)));
          minimum = refl;
          maximum = refl;
        }

    pieces_emitted : in_pieces tables head r.min_size maximum (modules_at b places) ≡ map piece_emitted pieces
    unfolding in_pieces
    pieces_emitted =
        let emit : List ℕ → Emission = λ l. chunk_of b.shared.sizes head (mark_in cutting l) l in
        ap (λ (l : List ℕ). map emit (pieces_of cutting l))
        (by_ranks b fits.passed t.rank fits.ranks places placed.below)
        ∙ ap (map emit) (pieces_map (module_at b) (cutting_of r tree maximum) cutting (in_id_order tree places) (written (in_id_order tree places) (λ p m. m)))
        ∙ map-map emit (modules_at b) pieces

    pieces_ended : Standing r tree places → r.max_size ≡ Some maximum → ended ≡ map piece_chunk pieces
    unfolding chunks_from
    pieces_ended s limit =
        ap (chunks_from tree i) (ends_pieces r tree maximum limit places s)
        ∙ map-map (λ piece. chunk_from tree (with_places piece i)) (λ piece. among piece places) pieces

    in_pieces_lem : Standing r tree places → r.max_size ≡ Some maximum
        → AllMatch b (in_pieces tables head r.min_size maximum (modules_at b places)) ended
    in_pieces_lem s limit =
        subst (λ (es : List Emission). AllMatch b es ended) (sym pieces_emitted)
        (subst (λ (chunks : List Chunk). AllMatch b (map piece_emitted pieces) chunks) (sym (pieces_ended s limit))
        (all_match b piece_emitted piece_chunk pieces
        (λ side m.
        let part = pieces_parts (cutting_of r tree maximum) (in_id_order tree places) side m in
        matches b fits.passed i head h (among side places) side
        (λ p k. placed.below p (ordered_mem tree places p (part_mem part p k))) (side_same side part)
        (mark_in cutting (modules_at b side))
        (mark_map (module_at b) (cutting_of r tree maximum) cutting side (written side (part_mem part))
        ∙ sym (piece_mark r tree maximum limit places s.exact s.ascend side part)))))

    by_size : Standing r tree places → r.max_size ≡ Some maximum → (large : Bool) → lt maximum (item_size r tree places) ≡ large
        → AllMatch b (emitted_over (then_some large maximum) tables head r.min_size (modules_at b places)) ended
    by_size s limit true e = in_pieces_lem s limit
    by_size s limit false e = as_whole (ends_small r tree maximum limit places s.some s.reaches e) (small_mark r tree maximum limit places e)

  -- ---- the limits

  by_maximum : Standing r tree places → (limit : Option Float) → r.max_size ≡ limit
      → AllMatch b (emitted_within limit tables head r.min_size (modules_at b places)) ended
  by_maximum s None e = as_whole (ends_unlimited r tree places s.some s.reaches e) (unlimited_mark r tree places e)
  by_maximum s (Some maximum) e =
      subst (λ (x : Float). AllMatch b (emitted_over (then_some (lt maximum x) maximum) tables head r.min_size (modules_at b places)) ended) (sym total)
      (by_size maximum s e (lt maximum (item_size r tree places)) refl)

  by_minimum : 1 ≤ length places → (small : Bool) → lt (item_size r tree places) r.min_size ≡ small
      → AllMatch b (emitted_unless small tables head (limits_of r) (modules_at b places)) ended
  unfolding chunks_from
  by_minimum some true e =
      subst (λ (ends : List (List ℕ)). AllMatch b [] (chunks_from tree i ends)) (sym (ends_dropped r tree places e)) none
  by_minimum some false e =
      by_maximum
      (record { ascend = placed.ascend; exact = places_exact b fits.passed r places placed; some = some; reaches = e })
      r.max_size refl

-- ---- the law

module _ (b : goal.Given) (t : Tables) (bits : List ℕ) (fits : ItemFits b t bits) (i : Item) (head : Head) (h : HeadOf i head) where
  of_tables_lem : (places : List ℕ) → Placed (length (places_of b)) places
      → AllMatch b (emitted_from (tables_of b t.rank) head (limits_of i.settings) (modules_at b places))
      (chunks_from (tree_of b) i (ends_of i.settings (tree_of b) places))
  unfolding emitted_from chunks_from
  of_tables_lem [] placed =
      subst (λ (ends : List (List ℕ)). AllMatch b [] (chunks_from (tree_of b) i ends)) (sym (ends_empty i.settings (tree_of b))) none
  of_tables_lem (p ∷ places) placed =
      let all = p ∷ places in
      subst
      (λ (x : Float). AllMatch b (emitted_unless (lt x i.settings.min_size) (tables_of b t.rank) head (limits_of i.settings) (modules_at b all))
      (chunks_from (tree_of b) i (ends_of i.settings (tree_of b) all)))
      (sym (total b t bits fits i head h all placed))
      (by_minimum b t bits fits i head h all placed (omega arith) (lt (item_size i.settings (tree_of b) all) i.settings.min_size) refl)

  pub emissions_match : (limits : Limits) → LimitsOf i.settings limits → (places : List ℕ) → Placed (length (places_of b)) places
      → AllMatch b (emitted_from t head limits (modules_at b places)) (chunks_from (tree_of b) i (ends_of i.settings (tree_of b) places))
  emissions_match limits l places placed =
      subst (λ (es : List Emission). AllMatch b es (chunks_from (tree_of b) i (ends_of i.settings (tree_of b) places)))
      (sym (ap₂ (λ (u : Tables) (k : Limits). emitted_from u head k (modules_at b places)) (tables_are b t bits fits) (limits_are i.settings limits l)))
      (of_tables_lem places placed)
