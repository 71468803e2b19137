-- Whether two lists of numbers are the same.
use Rattle.std.specs.Prelude.{ℕ, Bool, true, false, ◌&&◌, List, [], ◌∷◌, eqb}

unfoldable pub same_numbers : List ℕ → List ℕ → Bool
same_numbers [] [] = true
same_numbers [] (b ∷ r) = false
same_numbers (a ∷ l) [] = false
same_numbers (a ∷ l) (b ∷ r) = eqb a b && same_numbers l r
