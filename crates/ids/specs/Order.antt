-- "Order of ids is byte order."
use Rattle.std.specs.Prelude.{ℕ, Bool, true, false, ◌&&◌, ◌||◌, List, [], ◌∷◌, ltb, eqb}

-- the first id stands before the second: at the first byte that differs it has the lower one, or it is a proper prefix
unfoldable pub before : List ℕ → List ℕ → Bool
before [] [] = false
before [] (b ∷ r) = true
before (a ∷ l) [] = false
before (a ∷ l) (b ∷ r) = ltb a b || (eqb a b && before l r)
