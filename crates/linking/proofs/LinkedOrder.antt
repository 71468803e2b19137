-- The pass over an order without repeats, against the modules of each chunk: by induction from the end of the order.
use Prim.Native.Nat.{ℕ, suc, ◌+◌, ◌≤◌, ◌<◌}
use mathlib.Core.Bool.{Bool, true, false}
use mathlib.Core.List.{List, [], ◌∷◌, map, Memᴰ}
use mathlib.Core.Logic.{⊎_elim}
use mathlib.Core.Path.{◌≡◌, refl, sym, ap, ◌∙◌}
use native.Mathlib.Nat.{add-zero}
use native.Mathlib.Omega.{arith}
use borrow.Author.Tests.{eqb-true, eqb-false, eq-eqb, ne_eqb}
use lib.Dec.{eqb}
use lib.ListN.{length, get_or, set, drop, replicate, length-map, length-set}
use lib.Seq.{get_or-set_same, get_or-set_other, drop-set-lt}
use Rattle.lists.specs.Elem.{elem}
use Rattle.lists.proofs.Distinct.{Distinct}
use Rattle.lists.proofs.Sort.{Pairs, none, more}
use Rattle.grouping.specs.Written.{modules_from, chunk_number, next_module, first_module}
use Rattle.lists.specs.Area.{placed}
use Rattle.linking.specs.Links.{Links, slot_of, pushed, linked}
use Rattle.lists.proofs.Elem.{not_elem}
use Rattle.linking.proofs.Found.{
  each_from,
  ApartPlaces,
  InNone,
  Found,
  find,
  none_number,
  found_number,
  found_below,
  none_each,
  found_first,
  found_next,
  other_next,
}
use Rattle.lists.proofs.Placed.{placed_set, placed_read}

-- the chains of chunks with these modules, over n modules; the areas as they were elsewhere
pub record Chained (n at : ℕ) (members : List (List ℕ)) (entry : Links) (before : List ℕ) (now : Links) : Type 0 where
  pub nexts : (m : ℕ) → m < n → get_or now.next_of m 0 ≡ next_module m members
  pub rest : drop n now.next_of ≡ drop n entry.next_of
  pub long : n ≤ length now.next_of
  pub firsts : now.first_of ≡ placed at (map first_module members) before

module _ (n at base : ℕ) (chunk_of before : List ℕ) (entry : Links) (chunks : List (List ℕ)) (apart : Pairs ApartPlaces chunks)
    (room : at ≤ length before) where
  -- one module more: it stands at place p, in front of `modules`, in which it does not stand
  module _ (p m : ℕ) (modules : List ℕ) (below : m < n) (new : Memᴰ m modules → ⊥) (number : get_or chunk_of m 0 ≡ chunk_number base p chunks)
      (now : Links) (later : Chained n at (each_from (suc p) chunks modules) entry before now) where
    none_chained : InNone p chunks → Chained n at (each_from p chunks (m ∷ modules)) entry before (pushed chunk_of base at m now)
    unfolding pushed
    none_chained h =
        rw (none_each p m modules chunks h, eq-eqb (get_or chunk_of m 0) 0 (number ∙ none_number base p chunks h)) later

    module _ (j : ℕ) (f : Found p chunks j) where
      abbrev firsts : List ℕ
      firsts = map first_module (each_from (suc p) chunks modules)

      inside : j < length firsts
      inside = rw (length-map (each_from (suc p) chunks modules) first_module, length-map chunks (λ c. modules_from (suc p) c modules)) (found_below f)

      found_nexts : (x : ℕ) → x < n
          → get_or (set now.next_of m (get_or now.first_of (at + j) 0)) x 0 ≡ next_module x (each_from p chunks (m ∷ modules))
      found_nexts x h = go (eqb x m) refl
        where
          go : (t : Bool) → eqb x m ≡ t
              → get_or (set now.next_of m (get_or now.first_of (at + j) 0)) x 0 ≡ next_module x (each_from p chunks (m ∷ modules))
          go true e =
              let within : m < length now.next_of = omega (arith, later.long) in
              ap (λ y. get_or (set now.next_of m (get_or now.first_of (at + j) 0)) y 0) (eqb-true x m e)
              ∙ get_or-set_same now.next_of m (get_or now.first_of (at + j) 0) 0 within
              ∙ ap (λ l. get_or l (at + j) 0) later.firsts
              ∙ placed_read at j firsts before room inside 0
              ∙ sym (found_next p m modules (not_elem m modules new) f)
              ∙ ap (λ y. next_module y (each_from p chunks (m ∷ modules))) (sym (eqb-true x m e))
          go false e =
              get_or-set_other now.next_of m x (get_or now.first_of (at + j) 0) 0 (eqb-false x m e)
              ∙ later.nexts x h
              ∙ sym (other_next p m modules x (eqb-false x m e) chunks)

      found_chained : Chained n at (each_from p chunks (m ∷ modules)) entry before (pushed chunk_of base at m now)
      unfolding pushed
      found_chained =
          let e : get_or chunk_of m 0 ≡ base + j + 1 = number ∙ found_number base f in
          let slot : slot_of base at (get_or chunk_of m 0) ≡ at + j = rw e (omega arith) in
          rw (ne_eqb (get_or chunk_of m 0) 0 (λ z. omega arith), slot)
          (record {
            nexts = found_nexts;
            rest = drop-set-lt n now.next_of m (get_or now.first_of (at + j) 0) below ∙ later.rest;
            long = rw (length-set now.next_of m (get_or now.first_of (at + j) 0)) later.long;
            firsts =
                ap (λ l. set l (at + j) (m + 1)) later.firsts
                ∙ placed_set at j firsts before room inside (m + 1)
                ∙ ap (λ l. placed at l before) (sym (found_first p m modules f));
          })

    pub one_chained : Chained n at (each_from p chunks (m ∷ modules)) entry before (pushed chunk_of base at m now)
    one_chained = ⊎_elim none_chained (λ s. found_chained s.0 s.1) (find p apart)

  nothing_chained : (p : ℕ) (some : List (List ℕ)) → map first_module (each_from p some []) ≡ replicate (length some) 0
  unfolding modules_from
  nothing_chained p [] = refl
  nothing_chained p (c ∷ some) = ap (λ l. 0 ∷ l) (nothing_chained p some)

  nothing_next : (m p : ℕ) (some : List (List ℕ)) → next_module m (each_from p some []) ≡ 0
  unfolding modules_from next_module elem
  nothing_next m p [] = refl
  nothing_next m p (c ∷ some) = nothing_next m p some

  module _ (zeros : (m : ℕ) → m < n → get_or entry.next_of m 0 ≡ 0) (long : n ≤ length entry.next_of)
      (empty : entry.first_of ≡ placed at (replicate (length chunks) 0) before) where
    pub order_chained : (p : ℕ) {modules : List ℕ} → Distinct modules → ((m : ℕ) → Memᴰ m modules → m < n)
        → ((i : ℕ) → i < length modules → get_or chunk_of (get_or modules i 0) 0 ≡ chunk_number base (p + i) chunks)
        → Chained n at (each_from p chunks modules) entry before (linked chunk_of base at modules entry)
    unfolding linked
    order_chained p none below numbers = record {
      nexts = λ m h. zeros m h ∙ sym (nothing_next m p chunks);
      rest = refl;
      long = long;
      firsts = empty ∙ ap (λ l. placed at l before) (sym (nothing_chained p chunks));
    }
    order_chained p (more {x = m} {l = modules} first rest) below numbers =
        let place : (i : ℕ) → suc p + i ≡ p + suc i = λ i. omega arith in
        one_chained p m modules (below m (Memᴰ.head refl)) (λ i. first m i refl)
        (numbers 0 (omega arith) ∙ ap (λ q. chunk_number base q chunks) (add-zero p)) (linked chunk_of base at modules entry)
        (order_chained (suc p) rest (λ x i. below x (Memᴰ.tail i))
        (λ i h. numbers (suc i) (omega arith) ∙ ap (λ q. chunk_number base q chunks) (sym (place i))))
