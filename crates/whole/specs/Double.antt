-- A size as a double, and sizes added as doubles, by IEEE 754's binary64.
use Rattle.std.specs.Prelude.{ℕ, pos, Float}
use mathlib.Core.List.{List, foldl}
use Rattle.std.specs.Float.{binary64}
use Rattle.std.specs.Float.Ieee.{of_int, add}

-- the double of a whole number, as `n as f64` gives it
abbrev pub to_f64 : ℕ → Float
to_f64 n = of_int binary64 (pos n)

-- "sizes add": one after the other, from zero, rounded at each step as IEEE 754 has it
unfoldable pub sum_f64 : List ℕ → Float
sum_f64 sizes = foldl (λ total size. add binary64 total (to_f64 size)) (to_f64 0) sizes
