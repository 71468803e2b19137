-- Visiting modules one after another: marks and list go on agreeing, what was marked or listed stays, and newly marked are just the eligible
-- among the modules visited.
use Prim.Native.Nat.{ℕ, ◌<◌}
use mathlib.Core.Bool.{Bool, true, false, cond, ◌&&◌, and-false, false≢true}
use mathlib.Core.List.Memᴰ
use mathlib.Core.List.{List, [], ◌∷◌, ◌++◌, foldl, Memᴰ}
use mathlib.Core.Logic.{◌↔◌, ◌⊎◌, inl, inr, ⊎_elim}
use mathlib.Core.Path.{◌≡◌, refl, sym, ap, ◌∙◌, subst}
use native.Mathlib.Nat.{le_refl, le_trans, lt_of_lt_of_le}
use native.Mathlib.Omega.{arith}
use borrow.Author.Tests.{eqb-true, eqb-false, eq-eqb, ne_eqb}
use lib.Dec.{eqb}
use lib.ListN.{get_or, set, length-set}
use lib.Seq.{get_or-set_same}
use Rattle.flags.specs.Flags.{eligible_at}
use Rattle.walk.specs.Names.{Eligible}
use Rattle.walk.specs.Walk.{Walk, WalkState, found, visited}
use Rattle.walk.specs.Visited.{Visited}
use Rattle.walk.proofs.State.{in_marks, kept_mark, kept_place, now_marked, state_found}

-- ---- the three ways of a visit

module _ (flags : List ℕ) (w : Walk) (k : ℕ) where
  pub visit_ineligible : eligible_at flags k ≡ false → visited flags w k ≡ w
  unfolding visited
  visit_ineligible e = rw e

  pub visit_marked : (get_or w.marks k 0 ≡ 0 → ⊥) → visited flags w k ≡ w
  unfolding visited
  visit_marked h = rw (ne_eqb (get_or w.marks k 0) 0 h, and-false (eligible_at flags k))

  pub visit_new : eligible_at flags k ≡ true → get_or w.marks k 0 ≡ 0 → visited flags w k ≡ found w k
  unfolding visited
  visit_new e h = rw (e, eq-eqb (get_or w.marks k 0) 0 h)

-- ---- what visits keep

-- nothing to do: each of the modules is marked already, if it is eligible
pub none_new : (flags : List ℕ) (n : ℕ) (ks : List ℕ) (w : Walk) → WalkState flags n w → ((k : ℕ) → Memᴰ k ks → Eligible flags k → get_or w.marks k 0 ≡ 1) → Visited flags n ks w w
none_new flags n ks w s all =
    record {
      state = s;
      marks_stay = λ m e. e;
      places_stay = λ i l. refl;
      longer = le_refl w.tail;
      queue_length = refl;
      all = all;
      only = λ m e. inl e;
    }

-- some modules, and then others
pub then_visited : {flags : List ℕ} {n : ℕ} (ks : List ℕ) {js : List ℕ} {u v w : Walk} → Visited flags n ks u v → Visited flags n js v w → Visited flags n (ks ++ js) u w
then_visited {flags} ks {js} {u} a b =
    record {
      state = b.state;
      marks_stay = λ m e. b.marks_stay m (a.marks_stay m e);
      places_stay = λ i l. b.places_stay i (lt_of_lt_of_le l a.longer) ∙ a.places_stay i l;
      longer = le_trans a.longer b.longer;
      queue_length = b.queue_length ∙ a.queue_length;
      all = λ k m e. ⊎_elim (λ t. b.marks_stay k (a.all k t e)) (λ t. b.all k t e) (Memᴰ.append_cases ks m);
      only = λ m e. ⊎_elim (λ o. early m (a.only m o)) (λ t. inr (Memᴰ.append_right ks t.0, t.1)) (b.only m e);
    }
  where
    early : (m : ℕ) → (get_or u.marks m 0 ≡ 1) ⊎ (Memᴰ m ks × Eligible flags m) → (get_or u.marks m 0 ≡ 1) ⊎ (Memᴰ m (ks ++ js) × Eligible flags m)
    early m o = ⊎_elim (λ z. inl z) (λ t. inr (Memᴰ.append_left js t.0, t.1)) o

-- the same modules in another order
pub visited_same : {flags : List ℕ} {n : ℕ} {ks js : List ℕ} {w w' : Walk} → ((k : ℕ) → Memᴰ k ks ↔ Memᴰ k js)
    → Visited flags n ks w w' → Visited flags n js w w'
visited_same same v =
    record {
      state = v.state;
      marks_stay = v.marks_stay;
      places_stay = v.places_stay;
      longer = v.longer;
      queue_length = v.queue_length;
      all = λ k m e. v.all k ((same k).1 m) e;
      only = λ m e. ⊎_elim inl (λ t. inr ((same m).0 t.0, t.1)) (v.only m e);
    }

-- one module
module _ (flags : List ℕ) (n : ℕ) (w : Walk) (s : WalkState flags n w) (k : ℕ) (h : k < n) where
  passed : (Eligible flags k → get_or w.marks k 0 ≡ 1) → Visited flags n (k ∷ []) w w
  passed p = none_new flags n (k ∷ []) w s (λ j m e. let q : j ≡ k = Memᴰ.eq_of_singleton m in subst (λ (x : ℕ). get_or w.marks x 0 ≡ 1) (sym q) (p (subst (Eligible flags) q e)))

  new : Eligible flags k → get_or w.marks k 0 ≡ 0 → Visited flags n (k ∷ []) w (found w k)
  new el e =
      record {
        state = state_found flags n w s k h e el;
        marks_stay = kept_mark flags n w s k h e;
        places_stay = kept_place flags n w s k h e;
        longer = omega arith;
        queue_length = simp length-set;
        all = λ j m _. is_marked_lem j (Memᴰ.eq_of_singleton m);
        only = λ m o. ⊎_elim (λ q. inr (Memᴰ.head q, subst (Eligible flags) (sym q) el)) (λ z. inl z) (now_marked flags n w s k h e m o);
      }
    where
      is_marked_lem : (j : ℕ) → j ≡ k → get_or (set w.marks k 1) j 0 ≡ 1
      is_marked_lem j q = ap (λ (x : ℕ). get_or (set w.marks k 1) x 0) q ∙ get_or-set_same w.marks k 1 0 (in_marks flags n w s k h e)

  pub visit_one : Visited flags n (k ∷ []) w (visited flags w k)
  unfolding visited
  visit_one = go (eligible_at flags k) (eqb (get_or w.marks k 0) 0) refl refl
    where
      go : (a b : Bool) → eligible_at flags k ≡ a → eqb (get_or w.marks k 0) 0 ≡ b → Visited flags n (k ∷ []) w (cond (a && b) (found w k) w)
      go false b p q = passed (λ e. absurd (false≢true (sym p ∙ e)))
      go true false p q = passed (λ e. ⊎_elim (λ z. z) (λ z. absurd (eqb-false (get_or w.marks k 0) 0 q z)) (s.byte k h))
      go true true p q = new p (eqb-true (get_or w.marks k 0) 0 q)

-- a list of modules
pub visit_all : (flags : List ℕ) (n : ℕ) (ks : List ℕ) (w : Walk) → WalkState flags n w → ((k : ℕ) → Memᴰ k ks → k < n) → Visited flags n ks w (foldl (visited flags) w ks)
visit_all flags n [] w s below = none_new flags n [] w s (λ k m e. absurd (Memᴰ.not-nil m))
visit_all flags n (k ∷ ks) w s below =
    let one = visit_one flags n w s k (below k (Memᴰ.head refl)) in
    then_visited (k ∷ []) one (visit_all flags n ks (visited flags w k) one.state (λ j m. below j (Memᴰ.tail m)))
