-- In id order two neighbours have the same id exactly where two modules share an id, and where none do the list rises.
use Prim.Native.Nat.{ℕ, ◌+◌, ◌-◌, ◌<◌}
use mathlib.Core.Bool.{Bool, true, false, true≢false, false≢true}
use mathlib.Core.List.{List, [], ◌∷◌}
use mathlib.Core.Logic.{◌⊎◌, inl, ⊎_elim}
use mathlib.Core.Path.{◌≡◌, refl, sym, ap, ap₂, ◌∙◌}
use native.Mathlib.Omega.{arith}
use borrow.Author.Tests.{eqb-true, eq-eqb}
use lib.Dec.{eqb}
use lib.ListN.{length, get_or}
use Rattle.lists.specs.Same.{same_numbers}
use Rattle.lists.specs.Sort.{sort_by}
use Rattle.lists.proofs.Below.{any_none, none_of, both}
use Rattle.lists.proofs.Sort.{Rising, pairs_weaker}
use Rattle.lists.proofs.Sorted.{Sorted, sort_sorts}
use Rattle.ids.specs.Order.{before}
use Rattle.ids.specs.Parts.{id_at}
use Rattle.ids.proofs.ByteOrder.{before_irrefl, before_total}
use Rattle.orders.specs.ById.{by_id}
use Rattle.orders.proofs.Orders.{by_id_lem}
use Rattle.orders.proofs.Neighbours.{pairs_at, at_pairs, neighbours_pairs, Comparable, neighbours_rise, rise_neighbours}
use Rattle.idbytes.specs.Shared.{Compared}
use Rattle.idbytes.proofs.Sharing.{id_order}
use Rattle.exec_order.specs.AnyTwo.{any_two}
use Rattle.ranks.specs.ById.{same_id, tied_at, neighbours_tie}
use Rattle.exec_order.proofs.TwoOf.{same_answer, none_two, two_none}

-- ---- the test for equal ids

same_equal : (l r : List ℕ) → same_numbers l r ≡ true → l ≡ r
unfolding same_numbers
same_equal [] [] e = refl
same_equal [] (b ∷ r) e = absurd (false≢true e)
same_equal (a ∷ l) [] e = absurd (false≢true e)
same_equal (a ∷ l) (b ∷ r) e =
    let s = both (eqb a b) (same_numbers l r) e in
    ap₂ (λ (x : ℕ) (t : List ℕ). x ∷ t) (eqb-true a b s.0) (same_equal l r s.1)

same_self : (l : List ℕ) → same_numbers l l ≡ true
unfolding same_numbers
same_self [] = refl
same_self (a ∷ l) = rw (eq-eqb a a refl) (same_self l)

-- what a comparison of two ids answers
pub compared_same : {l r : List ℕ} (b : Bool) → Compared l r b → b ≡ same_numbers l r
compared_same {l} {r} true c = sym (ap (λ (t : List ℕ). same_numbers t r) (c.equal refl) ∙ same_self r)
compared_same {l} {r} false c = go (same_numbers l r) refl
  where
    go : (t : Bool) → same_numbers l r ≡ t → false ≡ t
    go false e = refl
    go true e = absurd (c.apart refl (same_equal l r e))

-- two ids of which one stands before the other differ, and the other way round
before_differ : (l r : List ℕ) → (before l r ≡ true) ⊎ (before r l ≡ true) → same_numbers l r ≡ false
before_differ l r o = go (same_numbers l r) refl
  where
    no : (t : List ℕ) → before t t ≡ true → ⊥
    no t p = true≢false (sym p ∙ before_irrefl t)

    go : (b : Bool) → same_numbers l r ≡ b → b ≡ false
    go false e = refl
    go true e =
        let q = same_equal l r e in
        absurd (⊎_elim (λ p. no r (ap (λ (t : List ℕ). before t r) (sym q) ∙ p)) (λ p. no r (ap (before r) (sym q) ∙ p)) o)

differ_before : (l r : List ℕ) → same_numbers l r ≡ false → (before l r ≡ true) ⊎ (before r l ≡ true)
differ_before l r e =
    ⊎_elim (λ q. absurd (true≢false (sym (same_self r) ∙ ap (λ (t : List ℕ). same_numbers t r) (sym q) ∙ e))) (λ o. o) (before_total l r)

-- ---- neighbours

module _ (bytes offsets : List ℕ) where
  pub in_id_order_lem : (list : List ℕ) → Sorted (by_id bytes offsets) (sort_by (by_id bytes offsets) list)
  in_id_order_lem list = sort_sorts (by_id bytes offsets) (id_order bytes offsets) list

  -- in id order neighbours rise where they do not have the same id
  next_rises : (list : List ℕ) → Sorted (by_id bytes offsets) list → neighbours_tie bytes offsets list ≡ false
      → (i : ℕ) → i + 1 < length list → by_id bytes offsets (get_or list i 0) (get_or list (i + 1) 0) ≡ true
  unfolding neighbours_tie tied_at
  next_rises list sorted e i h =
      ⊎_elim
      (λ p. p)
      (λ p. absurd (true≢false (sym p ∙ pairs_at 0 sorted i (i + 1) (omega arith) h)))
      (differ_before (id_at bytes offsets (get_or list i 0)) (id_at bytes offsets (get_or list (i + 1) 0))
      (none_of (tied_at bytes offsets list) (length list - 1) e i (omega arith)))

  -- a list in id order of which no neighbours tie rises
  pub untied_rises : (list : List ℕ) → Sorted (by_id bytes offsets) list → neighbours_tie bytes offsets list ≡ false
      → Rising (by_id bytes offsets) list
  untied_rises list sorted e = neighbours_pairs 0 (by_id_lem bytes offsets).trans list (next_rises list sorted e)

  -- in id order neighbours tie exactly where two modules share an id
  pub ties_share : (list : List ℕ) → neighbours_tie bytes offsets (sort_by (by_id bytes offsets) list) ≡ any_two (same_id bytes offsets) list
  unfolding neighbours_tie tied_at
  ties_share list = same_answer _ _ there back
    where
      s : List ℕ
      s = sort_by (by_id bytes offsets) list

      there : neighbours_tie bytes offsets s ≡ false → any_two (same_id bytes offsets) list ≡ false
      there e =
          none_two (same_id bytes offsets)
          (pairs_weaker
          (λ x y o. before_differ (id_at bytes offsets x) (id_at bytes offsets y) o)
          (at_pairs {R = Comparable (by_id bytes offsets) (by_id_lem bytes offsets)} 0 list
          (neighbours_rise (by_id bytes offsets) (by_id_lem bytes offsets) 0 list (next_rises s (in_id_order_lem list) e))))

      back : any_two (same_id bytes offsets) list ≡ false → neighbours_tie bytes offsets s ≡ false
      back e =
          let apart = pairs_at 0 (two_none (same_id bytes offsets) list e) in
          any_none (tied_at bytes offsets s) (length s - 1)
          (λ i h.
          before_differ (id_at bytes offsets (get_or s i 0)) (id_at bytes offsets (get_or s (i + 1) 0))
          (inl
          (rise_neighbours (by_id bytes offsets) (by_id_lem bytes offsets) 0 list
          (λ j k u v. differ_before (id_at bytes offsets (get_or list j 0)) (id_at bytes offsets (get_or list k 0)) (apart j k u v))
          i (omega arith))))
