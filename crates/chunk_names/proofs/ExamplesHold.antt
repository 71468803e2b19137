-- Every worked example holds of the definition, by computation.
use mathlib.Core.Bool.{true}
use mathlib.Core.Path.{◌≡◌, refl}
use Rattle.chunk_names.specs.Examples.{all_hold, examples}

pub examples_hold : all_hold examples ≡ true
unfolding all_hold examples
examples_hold = refl
