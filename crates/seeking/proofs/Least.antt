-- The first element of a list in an order: one element more at the end, what holds of each element holds of it, there is none only of no element,
-- the first of the images is the image of the first, and that of two lists end to end is the earlier of theirs.
use Prim.Native.Nat.{ℕ}
use mathlib.Core.Bool.{Bool, true, false, cond}
use mathlib.Core.List.{List, [], ◌∷◌, ◌++◌, map, foldl}
use mathlib.Core.Option
use mathlib.Core.Option.{Option, none, some}
use mathlib.Core.Path.{◌≡◌, refl, ap, ◌∙◌, subst}
use native.Mathlib.Omega.{arith}
use Rattle.lists.specs.Keep.{keep, keep_head}
use Rattle.lists.specs.Least.{earlier, least}
use Rattle.lists.proofs.Fold.{foldl_append}
use Rattle.lists.proofs.Keep.{Each, more, keep_append}
use Rattle.lists.proofs.Sorted.{WeakOrder}
use Rattle.seeking.specs.Search.{looked}

module _ {A : Type 0} (before : A → A → Bool) where
  least_snoc : (l : List A) (x : A) → least before (l ++ (x ∷ [])) ≡ looked before true (least before l) x
  unfolding least looked
  least_snoc [] x = refl
  least_snoc (y ∷ l) x = ap some (foldl_append (earlier before) y l (x ∷ []))

  -- one element more that is looked at
  keep_snoc : (t : Bool) (l : List A) (x : A) → least before (l ++ keep_head t x []) ≡ looked before t (least before l) x
  unfolding keep_head looked
  keep_snoc true l x = least_snoc l x
  keep_snoc false l x = ap (least before) (mathlib.Core.List.append-nil l)

  pub least_more : (p : A → Bool) (l : List A) (x : A) → least before (keep p (l ++ (x ∷ []))) ≡ looked before (p x) (least before (keep p l)) x
  unfolding keep
  least_more p l x = ap (least before) (keep_append p l (x ∷ [])) ∙ keep_snoc (p x) (keep p l) x

  -- ---- what holds of each element
  module _ (P : A → Type 0) where
    either : (b : Bool) (x y : A) → P x → P y → P (cond b x y)
    either true x y p q = p
    either false x y p q = q

    fold_each : (l : List A) (x : A) → P x → Each P l → P (foldl (earlier before) x l)
    fold_each [] x p r = p
    fold_each (y ∷ l) x p (more q r) = fold_each l (earlier before x y) (either (before y x) y x q p) r

    pub least_each : (l : List A) (x : A) → Each P l → least before l ≡ some x → P x
    unfolding least
    least_each [] x r e = absurd (let z : ◌≡◌ {A = ℕ} 0 1 = cc in omega arith)
    least_each (y ∷ l) x (more p r) e = let q : foldl (earlier before) y l ≡ x = cc in subst P q (fold_each l y p r)

-- ---- images under a function that keeps the order

module _ {A B : Type 0} (before : A → A → Bool) (after : B → B → Bool) (f : A → B) (same : (x y : A) → after (f x) (f y) ≡ before x y) where
  image : (x y : A) → earlier after (f x) (f y) ≡ f (earlier before x y)
  image x y = ap (λ b. cond b (f y) (f x)) (same y x) ∙ pick (before y x)
    where
      pick : (b : Bool) → cond b (f y) (f x) ≡ f (cond b y x)
      pick true = refl
      pick false = refl

  fold_map : (x : A) (l : List A) → foldl (earlier after) (f x) (map f l) ≡ f (foldl (earlier before) x l)
  fold_map x [] = refl
  fold_map x (y ∷ l) = ap (λ z. foldl (earlier after) z (map f l)) (image x y) ∙ fold_map (earlier before x y) l

  pub least_map : (l : List A) → least after (map f l) ≡ Option.map f (least before l)
  unfolding least
  least_map [] = refl
  least_map (x ∷ l) = ap some (fold_map x l)

-- ---- two lists end to end

-- the earlier of what two searches have found
abbrev pub sooner : {A : Type 0} → (A → A → Bool) → Option A → Option A → Option A
sooner before none o = o
sooner before (some x) none = some x
sooner before (some x) (some y) = some (earlier before x y)

module _ {A : Type 0} (before : A → A → Bool) (order : WeakOrder before) where
  earlier_assoc : (x y z : A) → earlier before (earlier before x y) z ≡ earlier before x (earlier before y z)
  earlier_assoc x y z = go (before y x) (before z y) refl refl
    where
      go : (p q : Bool) → before y x ≡ p → before z y ≡ q → earlier before (earlier before x y) z ≡ earlier before x (earlier before y z)
      go true true e f = rw (e, f, order.transitive z y x f e)
      go true false e f = rw (e, f, e)
      go false true e f = rw (e, f)
      go false false e f = rw (e, f, order.negation z y x f e, e)

  fold_from : (x y : A) (m : List A) → foldl (earlier before) (earlier before x y) m ≡ earlier before x (foldl (earlier before) y m)
  fold_from x y [] = refl
  fold_from x y (z ∷ m) = ap (λ w. foldl (earlier before) w m) (earlier_assoc x y z) ∙ fold_from x (earlier before y z) m

  pub least_append : (l m : List A) → least before (l ++ m) ≡ sooner before (least before l) (least before m)
  unfolding least
  least_append [] m = refl
  least_append (x ∷ l) [] = ap (λ t. least before (x ∷ t)) (mathlib.Core.List.append-nil l)
  least_append (x ∷ l) (y ∷ m) = ap some (foldl_append (earlier before) x l (y ∷ m) ∙ fold_from (foldl (earlier before) x l) y m)
