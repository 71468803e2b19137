-- Every worked example holds of the definition of Chunks, and every change of the sound build is answered with its number, by computation.
use mathlib.Core.Bool.{true, ◌&&◌}
use mathlib.Core.Path.{◌≡◌, refl}
use lib.Ieee.{of_int}
use Rattle.grouping.specs.Expected.{all_hold}
use Rattle.grouping.specs.Examples.{examples}
use Rattle.grouping.specs.Refusals.{refusals, all_answered}

pub examples_hold : (all_hold examples && all_answered refusals) ≡ true
unfolding all_hold examples all_answered refusals of_int
examples_hold = refl
