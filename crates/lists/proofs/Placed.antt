-- A list that is placed in an area from a place on: by stores one after the other, in two parts, and what then stands in it.
use Prim.Native.Nat.{ℕ, suc, ◌+◌, ◌≤◌, ◌<◌}
use mathlib.Core.List.{List, [], ◌∷◌, ◌++◌, append_assoc}
use mathlib.Core.Path.{◌≡◌, sym, ap, ◌∙◌}
use native.Mathlib.Nat.{zero-add, add-zero, suc-add}
use native.Mathlib.Omega.{arith}
use lib.ListN.{length, get_or, set, take, drop, length-append, length-take, length-drop, length-set, take-append-drop, get_or-append}
use lib.Seq.{length-take-le, get_or-append-add, set-append_left, sets, sets-eq}
use Rattle.lists.specs.Area.{placed}

module _ {A : Type 0} where
  pub sets_placed : (new before : List A) (at : ℕ) → at + length new ≤ length before → sets before at new ≡ placed at new before
  sets_placed new before at h = sets-eq new before at h ∙ append_assoc (take at before) new (drop (at + length new) before)

  pub placed_none : (at : ℕ) (before : List A) → placed at [] before ≡ before
  placed_none at before = rw (add-zero at) (take-append-drop at before)

  pub placed_length : (at : ℕ) (new before : List A) → at + length new ≤ length before → length (placed at new before) ≡ length before
  placed_length at new before h = simp (length-append, length-take, length-drop) (omega arith)

  sets_append : (l : List A) (i : ℕ) (xs ys : List A) → sets l i (xs ++ ys) ≡ sets (sets l i xs) (i + length xs) ys
  sets_append l i [] ys = rw (add-zero i)
  sets_append l i (x ∷ xs) ys =
      let next : suc i + length xs ≡ i + suc (length xs) = omega arith in
      sets_append (set l i x) (suc i) xs ys ∙ ap (λ k. sets (sets (set l i x) (suc i) xs) k ys) next

  -- some records, and then some more
  pub placed_more : (at : ℕ) (some new before : List A) → at + length some + length new ≤ length before
      → placed (at + length some) new (placed at some before) ≡ placed at (some ++ new) before
  placed_more at some new before h =
      let first : at + length some ≤ length before = omega arith in
      sym (sets_placed new (placed at some before) (at + length some) (rw (placed_length at some before first) h))
      ∙ ap (λ l. sets l (at + length some) new) (sym (sets_placed some before at first))
      ∙ sym (sets_append before at some new)
      ∙ sets_placed (some ++ new) before at (rw (length-append some new) (omega arith))

  set_append_add : (xs ys : List A) (j : ℕ) (a : A) → set (xs ++ ys) (length xs + j) a ≡ xs ++ set ys j a
  set_append_add [] ys j a = ap (λ k. set ys k a) (zero-add j)
  set_append_add (x ∷ xs) ys j a =
      ap (λ k. set (x ∷ (xs ++ ys)) k a) (suc-add (length xs) j) ∙ ap (λ l. x ∷ l) (set_append_add xs ys j a)

  -- one record of those that are placed
  module _ (at j : ℕ) (new before : List A) (h : at ≤ length before) (k : j < length new) where
    abbrev behind : List A
    behind = drop (at + length new) before

    index : length (take at before) + j ≡ at + j
    index = ap (λ i. i + j) (length-take-le at before h)

    pub placed_set : (a : A) → set (placed at new before) (at + j) a ≡ placed at (set new j a) before
    placed_set a =
        ap (λ i. set (placed at new before) i a) (sym index)
        ∙ set_append_add (take at before) (new ++ behind) j a
        ∙ ap (λ l. take at before ++ l) (set-append_left new behind j a k)
        ∙ ap (λ i. take at before ++ (set new j a ++ drop (at + i) before)) (sym (length-set new j a))

    pub placed_read : (d : A) → get_or (placed at new before) (at + j) d ≡ get_or new j d
    placed_read d =
        ap (λ i. get_or (placed at new before) i d) (sym index)
        ∙ get_or-append-add (take at before) (new ++ behind) j d
        ∙ get_or-append new behind d j k
