-- Every marked figure holds of the definitions, by computation.
use mathlib.Core.Bool.{true}
use mathlib.Core.Path.{◌≡◌, refl}
use lib.Ieee.{of_int, to_bits, to_unsigned}
use Rattle.figures.specs.Figure.{all_hold}
use Rattle.figures.specs.Marked.{marked}

pub marked_hold : all_hold marked ≡ true
unfolding all_hold marked of_int to_bits to_unsigned
marked_hold = refl
