-- Whether a test holds of an element of a list and a later one.
use Rattle.std.specs.Prelude.{Bool, false, ◌||◌, List, [], ◌∷◌}

-- the test holds of some element
unfoldable pub any_of : {A : Type 0} → (A → Bool) → List A → Bool
any_of p [] = false
any_of p (x ∷ l) = p x || any_of p l

unfoldable pub any_two : {A : Type 0} → (A → A → Bool) → List A → Bool
unfolding any_of
any_two p [] = false
any_two p (x ∷ l) = any_of (p x) l || any_two p l
