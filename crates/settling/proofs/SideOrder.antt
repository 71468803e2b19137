-- The id order of a part of an item's id order is that part: sorting is stable, so that keeping places commutes with sorting them.
use Prim.Native.Nat.{ℕ}
use mathlib.Core.Bool.{Bool, true, false, ◌&&◌, and-false}
use mathlib.Core.List.{List, Memᴰ, Permᴰ}
use mathlib.Core.Path.{◌≡◌, refl, sym, ◌∙◌, subst}
use native.Mathlib.Omega.{arith}
use lib.ListN.{length}
use Rattle.lists.specs.Elem.{elem}
use Rattle.lists.proofs.Distinct.{Distinct}
use Rattle.lists.proofs.Elem.{elem_mem, mem_elem}
use Rattle.lists.proofs.Rearranged.{sort_perm, perm_pairs, perm_length}
use Rattle.lists.proofs.Sort.{pairs_weaker, sort_mem, mem_sort}
use Rattle.ids.specs.Order.{before}
use Rattle.ids.proofs.ByteOrder.{before_irrefl, before_trans}
use Rattle.grouping.specs.Tree.{Tree, member_at}
use Rattle.grouping.specs.Fate.{in_id_order, among}
use Rattle.grouping_laws.proofs.Pieces.{Ascending}
use Rattle.grouping_laws.proofs.SmallestIds.{before_negation}
use Rattle.lists.proofs.KeepTests.{keep_keep, keep_same}
use Rattle.lists.proofs.SortKeep.{sort_keep}
use Rattle.lists.proofs.Sorted.{WeakOrder}
use Rattle.settling.proofs.Parts.{PartOf, part_kept}

module _ (tree : Tree) where
  -- the order of places by their ids
  abbrev pub id_before : ℕ → ℕ → Bool
  id_before p q = before (member_at tree p).id (member_at tree q).id

  pub id_order : WeakOrder id_before
  id_order =
      record {
        irreflexive = λ p. before_irrefl (member_at tree p).id;
        transitive = λ p q s. before_trans (member_at tree p).id (member_at tree q).id (member_at tree s).id;
        negation = λ p q s. before_negation (member_at tree p).id (member_at tree q).id (member_at tree s).id;
      }

  module _ (places : List ℕ) where
    pub ordered_perm : Permᴰ places (in_id_order tree places)
    unfolding in_id_order
    ordered_perm = sort_perm id_before places

    pub ordered_length : length (in_id_order tree places) ≡ length places
    ordered_length = sym (perm_length ordered_perm)

    pub ordered_mem : (p : ℕ) → Memᴰ p (in_id_order tree places) → Memᴰ p places
    unfolding in_id_order
    ordered_mem = sort_mem id_before places

    pub mem_ordered : (p : ℕ) → Memᴰ p places → Memᴰ p (in_id_order tree places)
    unfolding in_id_order
    mem_ordered = mem_sort id_before places

    pub ordered_distinct : Ascending places → Distinct (in_id_order tree places)
    ordered_distinct ascend = perm_pairs (λ x y ne e. ne (sym e)) ordered_perm (pairs_weaker (λ x y l e. omega arith) ascend)

  module _ (places : List ℕ) (ascend : Ascending places) (side : List ℕ) (part : PartOf side (in_id_order tree places)) where
    pub side_in_order : in_id_order tree (among side places) ≡ side
    unfolding in_id_order
    side_in_order = sym (sort_keep id_before (λ p. elem p side) id_order places) ∙ part_kept part (ordered_distinct places ascend)

    -- the places of a side, in execution order and in id order
    pub side_perm : Permᴰ (among side places) side
    side_perm = subst (λ (l : List ℕ). Permᴰ (among side places) l) side_in_order (ordered_perm (among side places))

-- the places of a piece of a side
pub among_among : (piece side places : List ℕ) → ((p : ℕ) → Memᴰ p piece → Memᴰ p side) → among piece (among side places) ≡ among piece places
among_among piece side places within =
    keep_keep (λ p. elem p piece) (λ p. elem p side) places
    ∙ keep_same (λ p. elem p side && elem p piece) (λ p. elem p piece) places (λ p m. go p (elem p piece) refl)
  where
    go : (p : ℕ) (b : Bool) → elem p piece ≡ b → (elem p side && b) ≡ b
    go p true e = rw (mem_elem p (within p (elem_mem p piece e)))
    go p false e = and-false (elem p side)
