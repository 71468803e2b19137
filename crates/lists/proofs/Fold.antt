-- A fold over an append, and of one element more.
use mathlib.Core.List.{List, [], ◌∷◌, ◌++◌, foldl}
use mathlib.Core.Path.{◌≡◌, refl}

pub foldl_append : {A B : Type 0} (f : B → A → B) (b : B) (l m : List A) → foldl f b (l ++ m) ≡ foldl f (foldl f b l) m
foldl_append f b [] m = refl
foldl_append f b (x ∷ l) m = foldl_append f (f b x) l m
