-- The smallest id held at places is that of one of them, before which no other's stands; and the order of subgroups by it.
use Prim.Native.Nat.{ℕ, ◌≤◌}
use mathlib.Core.Bool.{Bool, true, false, cond, true≢false}
use mathlib.Core.List.Memᴰ
use mathlib.Core.List.{List, [], ◌∷◌, map, foldl, Memᴰ}
use mathlib.Core.Logic.{⊎_elim}
use mathlib.Core.Path.{◌≡◌, refl, sym, ap, ◌∙◌}
use native.Mathlib.Omega.{arith}
use lib.ListN.{length}
use Rattle.lists.specs.Least.{earlier}
use Rattle.lists.proofs.Sorted.{WeakOrder}
use Rattle.ids.specs.Order.{before}
use Rattle.ids.proofs.ByteOrder.{before_irrefl, before_trans, before_asym, before_total}
use Rattle.grouping.specs.Tree.{Tree, member_at}
use Rattle.grouping.specs.WorkList.{smallest_id, subgroup_first}

-- an id that is not before a second, which is not before a third, is not before the third
pub before_negation : (a b c : List ℕ) → before a b ≡ false → before b c ≡ false → before a c ≡ false
before_negation a b c p q = go (before a c) refl
  where
    go : (t : Bool) → before a c ≡ t → t ≡ false
    go false e = refl
    go true e =
        absurd
        (⊎_elim
        (λ s. true≢false (sym e ∙ ap (λ (x : List ℕ). before x c) s ∙ q))
        (⊎_elim (λ s. true≢false (sym s ∙ p)) (λ s. true≢false (sym (before_trans b a c s e) ∙ q)))
        (before_total a b))

-- the place that holds the smallest id
pub record Held (tree : Tree) (places : List ℕ) : Type 0 where
  pub place : ℕ
  pub there : Memᴰ place places
  pub is : smallest_id tree places ≡ (member_at tree place).id
  pub lowest : (q : ℕ) → Memᴰ q places → before (member_at tree q).id (member_at tree place).id ≡ false

module _ (tree : Tree) where
  -- of two ids the smaller is the one with which the fold goes on
  fold_held : (p : ℕ) (places : List ℕ) → Held tree (p ∷ places)
  unfolding smallest_id
  fold_held p [] =
      record {
        place = p;
        there = Memᴰ.head refl;
        is = refl;
        lowest =
            λ q m.
            ⊎_elim
            (λ e. ap (λ (x : ℕ). before (member_at tree x).id (member_at tree p).id) e ∙ before_irrefl (member_at tree p).id)
            (λ t. absurd (Memᴰ.not-nil t))
            (Memᴰ.cases_cons m);
      }
  fold_held p (q ∷ places) = go (before (member_at tree q).id (member_at tree p).id) refl (fold_held q places) (fold_held p places)
    where
      go : (b : Bool) → before (member_at tree q).id (member_at tree p).id ≡ b → Held tree (q ∷ places) → Held tree (p ∷ places)
          → Held tree (p ∷ q ∷ places)
      go true e h _ =
          let id : ℕ → List ℕ = λ x. (member_at tree x).id in
          record {
            place = h.place;
            there = Memᴰ.tail h.there;
            is = ap (λ (t : Bool). foldl (earlier before) (cond t (id q) (id p)) (map id places)) e ∙ h.is;
            lowest =
                λ x m.
                ⊎_elim
                (λ s.
                ap (λ (y : ℕ). before (id y) (id h.place)) s
                ∙ before_negation (id p) (id q) (id h.place) (before_asym (id q) (id p) e) (h.lowest q (Memᴰ.head refl)))
                (λ t. h.lowest x t)
                (Memᴰ.cases_cons m);
          }
      go false e _ h =
          let id : ℕ → List ℕ = λ x. (member_at tree x).id in
          record {
            place = h.place;
            there = ⊎_elim (λ s. Memᴰ.head s) (λ t. Memᴰ.tail (Memᴰ.tail t)) (Memᴰ.cases_cons h.there);
            is = ap (λ (t : Bool). foldl (earlier before) (cond t (id q) (id p)) (map id places)) e ∙ h.is;
            lowest =
                λ x m.
                ⊎_elim
                (λ s. h.lowest x (Memᴰ.head s))
                (λ t.
                ⊎_elim
                (λ s.
                ap (λ (y : ℕ). before (id y) (id h.place)) s
                ∙ before_negation (id q) (id p) (id h.place) e (h.lowest p (Memᴰ.head refl)))
                (λ u. h.lowest x (Memᴰ.tail u))
                (Memᴰ.cases_cons t))
                (Memᴰ.cases_cons m);
          }

  pub smallest_held : (places : List ℕ) → 1 ≤ length places → Held tree places
  smallest_held [] some = absurd (omega arith)
  smallest_held (p ∷ places) some = fold_held p places

  pub subgroup_order : WeakOrder (subgroup_first tree)
  unfolding subgroup_first
  subgroup_order =
      record {
        irreflexive = λ x. before_irrefl (smallest_id tree x.places);
        transitive = λ x y z. before_trans (smallest_id tree x.places) (smallest_id tree y.places) (smallest_id tree z.places);
        negation = λ x y z. before_negation (smallest_id tree x.places) (smallest_id tree y.places) (smallest_id tree z.places);
      }
