-- "UTF8-octets": characters one after another, none of them cut off.
use Rattle.std.specs.Prelude.{ℕ, Bool, true, false, ◌&&◌, List, [], ◌∷◌}
use Rattle.utf8.specs.Table.{Values, among, characters, begins, following}

-- whether bytes are text where the character at hand still needs bytes of the given values
unfoldable pub goes_on : List Values → List ℕ → Bool
unfolding characters begins following
goes_on [] [] = true
goes_on (v ∷ due) [] = false
goes_on [] (b ∷ l) = begins characters b && goes_on (following characters b) l
goes_on (v ∷ due) (b ∷ l) = among v b && goes_on due l

unfoldable pub utf8 : List ℕ → Bool
unfolding goes_on
utf8 l = goes_on [] l
