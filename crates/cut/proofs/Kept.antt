-- What holds of each place holds of each that is kept and of the one that is picked; nothing is kept just where no place passes.
use Prim.Native.Nat.{ℕ, zero, suc, ◌+◌, ◌≤◌, ◌<◌}
use mathlib.Core.Bool.{Bool, true, false, cond}
use mathlib.Core.List.{List, [], ◌∷◌, foldl, map}
use mathlib.Core.Logic.{⊎_elim}
use mathlib.Core.Path.{◌≡◌, refl, ap, ◌∙◌, subst}
use native.Mathlib.Omega.{arith}
use native.Mathlib.Nat.{eq-or-lt_of_le}
use lib.Ieee.{Float}
use Rattle.lists.specs.Range.{range}
use Rattle.lists.specs.Keep.{keep, keep_head}
use Rattle.lists.proofs.Keep.{Each, none, more}
use Rattle.cut.specs.Candidate.{beats}
use Rattle.cut.specs.Cut.{better}
use Rattle.cut.specs.declared.candidate.Candidate.{Candidate}

cons_not_nil : {A : Type 0} {x : A} {l : List A} → x ∷ l ≡ [] → ⊥
cons_not_nil e = let z : ◌≡◌ {A = ℕ} 0 1 = cc in omega arith

module _ {A : Type 0} (Q : A → Type 0) where
  -- the k places from a on
  pub each_place : (f : ℕ → A) (a k : ℕ) → ((i : ℕ) → a ≤ i → i < a + k → Q (f i)) → Each Q (map f (range a k))
  unfolding range
  each_place f a zero h = none
  each_place f a (suc k) h = more (h a (omega arith) (omega arith)) (each_place f (suc a) k (λ i l u. h i (omega arith) (omega arith)))

  out : {x : A} {l : List A} → Each Q (x ∷ l) → Q x × Each Q l
  out (more q r) = (q, r)

  pub at_place : (f : ℕ → A) (a k : ℕ) → Each Q (map f (range a k)) → (i : ℕ) → a ≤ i → i < a + k → Q (f i)
  unfolding range
  at_place f a zero e i l u = absurd (omega arith)
  at_place f a (suc k) e i l u =
      ⊎_elim
      (λ p. subst (λ (n : ℕ). Q (f n)) p (out e).0)
      (λ p. at_place f (suc a) k (out e).1 i p (omega arith))
      (eq-or-lt_of_le l)

  -- what is kept passes besides
  pub kept_passes : (p : A → Bool) {l : List A} → Each Q l → Each (λ x. Q x × (p x ≡ true)) (keep p l)
  unfolding keep keep_head
  kept_passes p none = none
  kept_passes p (more {x} {l} q r) = go (p x) refl (kept_passes p r)
    where
      go : (b : Bool) → p x ≡ b → Each (λ x. Q x × (p x ≡ true)) (keep p l) → Each (λ x. Q x × (p x ≡ true)) (keep_head b x (keep p l))
      go true e s = more (q, e) s
      go false e s = s

module _ {A : Type 0} (p : A → Bool) where
  -- nothing is kept of what fails
  pub nothing_kept : {l : List A} → Each (λ x. p x ≡ false) l → keep p l ≡ []
  unfolding keep keep_head
  nothing_kept none = refl
  nothing_kept (more {x} {l} e r) = ap (λ (b : Bool). keep_head b x (keep p l)) e ∙ nothing_kept r

  -- if nothing is kept, all of it fails
  head_fails : (b : Bool) (x : A) (l : List A) → keep_head b x l ≡ [] → (b ≡ false) × (l ≡ [])
  unfolding keep_head
  head_fails true x l e = absurd (cons_not_nil e)
  head_fails false x l e = (refl, e)

  pub all_fail : (l : List A) → keep p l ≡ [] → Each (λ x. p x ≡ false) l
  unfolding keep
  all_fail [] e = none
  all_fail (x ∷ l) e = let s = head_fails (p x) x (keep p l) e in more s.0 (all_fail l s.1)

-- what holds of each cut holds of the best of them
module _ (Q : Candidate → Type 0) (maximum : Float) where
  either : (b : Bool) (best later : Candidate) → Q best → Q later → Q (cond b later best)
  either true best later p q = q
  either false best later p q = p

  pub best_is_one : (best : Candidate) (later : List Candidate) → Q best → Each Q later → Q (foldl (better maximum) best later)
  unfolding better
  best_is_one best [] q none = q
  best_is_one best (c ∷ later) q (more r s) = best_is_one (better maximum best c) later (either (beats maximum c best) best c q r) s
