-- Ranks in id order: of two modules the one with the lower rank has the id that stands first, so sorting by rank is sorting by id.
use Prim.Native.Nat.{ℕ, ◌<◌}
use mathlib.Core.Bool.{Bool, true, false}
use mathlib.Core.List.{List, Memᴰ}
use mathlib.Core.Path.{◌≡◌, refl, sym, ap, ap₂, ◌∙◌, subst}
use native.Mathlib.Omega.{arith}
use borrow.Author.Tests.{ltb-true, ltb-false}
use lib.Dec.{ltb}
use lib.ListN.{length, get_or}
use Rattle.lists.specs.Sort.{sort_by}
use Rattle.lists.proofs.Pairs.{pairs_at, at_pairs}
use Rattle.lists.proofs.Position.{mem_get_or, get_or_mem}
use Rattle.lists.proofs.Sort.{Rising, lower, mem_sort}
use Rattle.lists.proofs.SortMap.{sort_same}
use Rattle.lists.proofs.SortPacked.{pack, pack_apart, packed_sort}
use Rattle.ids.specs.Parts.{id_at}
use Rattle.ids.proofs.ByteOrder.{before_irrefl, before_asym}
use Rattle.orders.specs.ById.{by_id}
use Rattle.exec_order.specs.AnyTwo.{any_two}
use Rattle.ranks.specs.ById.{same_id, Ranks}
use Rattle.places.specs.Ordered.{ranks_sorted}
use Rattle.ranks.proofs.SameIds.{in_id_order_lem, untied_rises, ties_share}

module _ (bytes offsets list : List ℕ) {rank₀ rank : List ℕ} (ranks : Ranks (sort_by (by_id bytes offsets) list) rank₀ rank) where
  abbrev rank_of : ℕ → ℕ
  rank_of m = get_or rank m 0

  abbrev sorted : List ℕ
  sorted = sort_by (by_id bytes offsets) list

  -- the rank of a module is its position
  at_rank : (m : ℕ) → Memᴰ m list → (rank_of m < length sorted) × (get_or sorted (rank_of m) 0 ≡ m)
  at_rank m i =
      let s = mem_get_or 0 (mem_sort (by_id bytes offsets) list m i) in
      let e : rank_of m ≡ s.0 = ap rank_of (sym s.2) ∙ ranks.position s.0 s.1 in
      (subst (λ (k : ℕ). k < length sorted) (sym e) s.1, ap (λ (k : ℕ). get_or sorted k 0) e ∙ s.2)

  rank_apart : (l m : ℕ) → Memᴰ l list → Memᴰ m list → rank_of l ≡ rank_of m → l ≡ m
  rank_apart l m i j e = sym (at_rank l i).1 ∙ ap (λ (k : ℕ). get_or sorted k 0) e ∙ (at_rank m j).1

  module _ (apart : any_two (same_id bytes offsets) list ≡ false) where
    rises : Rising (by_id bytes offsets) sorted
    rises = untied_rises bytes offsets sorted (in_id_order_lem bytes offsets list) (ties_share bytes offsets list ∙ apart)

    first : (l m : ℕ) → Memᴰ l list → Memᴰ m list → rank_of l < rank_of m → by_id bytes offsets l m ≡ true
    first l m i j h =
        sym (ap₂ (by_id bytes offsets) (at_rank l i).1 (at_rank m j).1) ∙ pairs_at rises (rank_of l) (rank_of m) 0 h (at_rank m j).0

    pub rank_order : (l m : ℕ) → Memᴰ l list → Memᴰ m list → ltb (rank_of l) (rank_of m) ≡ by_id bytes offsets l m
    rank_order l m i j = go (ltb (rank_of l) (rank_of m)) (ltb (rank_of m) (rank_of l)) refl refl
      where
        id : ℕ → List ℕ
        id = id_at bytes offsets

        go : (s t : Bool) → ltb (rank_of l) (rank_of m) ≡ s → ltb (rank_of m) (rank_of l) ≡ t → ltb (rank_of l) (rank_of m) ≡ by_id bytes offsets l m
        go true t p q = p ∙ sym (first l m i j (ltb-true (rank_of l) (rank_of m) p))
        go false true p q = p ∙ sym (before_asym (id m) (id l) (first m l j i (ltb-true (rank_of m) (rank_of l) q)))
        go false false p q =
            let e : rank_of l ≡ rank_of m = omega (arith, ltb-false (rank_of l) (rank_of m) p, ltb-false (rank_of m) (rank_of l) q) in
            p ∙ sym (ap (λ (k : ℕ). by_id bytes offsets k m) (rank_apart l m i j e) ∙ before_irrefl (id m))

    -- modules of the list, sorted by rank
    pub by_rank : (members : List ℕ) → ((m : ℕ) → Memᴰ m members → Memᴰ m list × (m < 4096))
        → ranks_sorted rank members ≡ sort_by (by_id bytes offsets) members
    by_rank members within =
        packed_sort rank_of members
        (at_pairs {R = λ x y. ltb (pack rank_of y) (pack rank_of x) ≡ lower rank_of y x} members 0
        (λ i j u v. agree (get_or members i 0) (get_or members j 0) (get_or_mem members i 0 (omega arith)) (get_or_mem members j 0 v)))
        (λ m i. (within m i).1)
        ∙ sort_same (lower rank_of) (by_id bytes offsets) members (λ l m i j. rank_order l m (within l i).0 (within m j).0)
      where
        agree : (x y : ℕ) → Memᴰ x members → Memᴰ y members → ltb (pack rank_of y) (pack rank_of x) ≡ lower rank_of y x
        agree x y i j =
            let u = within x i in
            let v = within y j in
            pack_apart rank_of x y u.1 v.1 (rank_apart y x v.0 u.0)
