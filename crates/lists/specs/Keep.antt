-- The elements of a list that pass a test, in their order.
use Rattle.std.specs.Prelude.{Bool, true, false, List, [], ◌∷◌}

-- The head is kept where its test passed. A function of its own, so that the rest is computed once.
unfoldable pub keep_head : {A : Type 0} → Bool → A → List A → List A
keep_head true x l = x ∷ l
keep_head false x l = l

unfoldable pub keep : {A : Type 0} → (A → Bool) → List A → List A
unfolding keep_head
keep p [] = []
keep p (x ∷ l) = keep_head (p x) x (keep p l)
