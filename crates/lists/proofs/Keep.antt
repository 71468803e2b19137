-- Keeping the elements that pass a test: over an append, and that what is kept passes.
use mathlib.Core.Bool.{Bool, true, false}
use mathlib.Core.List.{List, [], ◌∷◌, ◌++◌}
use mathlib.Core.Path.{◌≡◌, refl}
use Rattle.lists.specs.Keep.{keep, keep_head}

head_append : {A : Type 0} (b : Bool) (x : A) (l m : List A) → keep_head b x (l ++ m) ≡ keep_head b x l ++ m
unfolding keep_head
head_append true x l m = refl
head_append false x l m = refl

pub keep_append : {A : Type 0} (p : A → Bool) (l m : List A) → keep p (l ++ m) ≡ keep p l ++ keep p m
unfolding keep
keep_append p [] m = refl
keep_append p (x ∷ l) m = rw (keep_append p l m) (head_append (p x) x (keep p l) (keep p m))

-- what holds of each element that passes holds of each that is kept
pub data Each {A : Type 0} (P : A → Type 0) : List A → Type 0 where
  none : Each P []
  more : {x : A} {l : List A} → P x → Each P l → Each P (x ∷ l)

pub keep_each : {A : Type 0} (P : A → Type 0) (p : A → Bool) → ((x : A) → p x ≡ true → P x) → (l : List A) → Each P (keep p l)
unfolding keep keep_head
keep_each P p h [] = none
keep_each {A} P p h (x ∷ l) = go (p x) refl (keep_each P p h l)
  where
    go : (b : Bool) → p x ≡ b → Each P (keep p l) → Each P (keep_head b x (keep p l))
    go true e r = more (h x e) r
    go false e r = r
