-- What holds of every element of a list, and of both answers of a test, holds of the one that is taken.
use mathlib.Core.Bool.{Bool, true, false, cond}
use mathlib.Core.List.{List, [], ◌∷◌, foldl, Memᴰ}
use mathlib.Core.Option.{Option, none, some}
use mathlib.Core.Path.{refl}
use Rattle.lists.specs.Least.{least, earlier}

-- it holds of what an option has
abbrev pub OfOption : {A : Type 0} → (A → Type 0) → Option A → Type 0
OfOption Q none = Unit {0}
OfOption Q (some x) = Q x

pub cond_holds : {A : Type 0} (Q : A → Type 0) (t : Bool) (x y : A) → Q x → Q y → Q (cond t x y)
cond_holds Q true x y p q = p
cond_holds Q false x y p q = q

fold_holds : {A : Type 0} (Q : A → Type 0) (before : A → A → Bool) (x : A) (l : List A)
    → Q x → ((y : A) → Memᴰ y l → Q y) → Q (foldl (earlier before) x l)
fold_holds Q before x [] h all = h
fold_holds Q before x (y ∷ l) h all =
    fold_holds Q before (earlier before x y) l (cond_holds Q (before y x) y x (all y (Memᴰ.head refl)) h) (λ z m. all z (Memᴰ.tail m))

pub least_holds : {A : Type 0} (Q : A → Type 0) (before : A → A → Bool) (l : List A) → ((y : A) → Memᴰ y l → Q y) → OfOption Q (least before l)
unfolding least
least_holds Q before [] all = tt
least_holds Q before (x ∷ l) all = fold_holds Q before x l (all x (Memᴰ.head refl)) (λ y m. all y (Memᴰ.tail m))
