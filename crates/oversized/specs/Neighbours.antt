-- Modules in id order as two tables have them, which each cut of a piece reads a part of.
use Rattle.std.specs.Prelude.{ℕ, ◌-◌, ◌≤◌, ◌<◌, List, ◌≡◌, Float, length, get_or, take}
use Rattle.std.specs.Float.{nan}
use Rattle.whole.specs.Double.{sum_f64}
use Rattle.cut.specs.Order.{sizes_in, alike, Cuttable}

-- each module but the first, compared with the one before it; the first entry is free
pub record Compared (bytes offsets order similar : List ℕ) : Type 0 where
  pub as_many : length similar ≡ length order
  pub each : (i : ℕ) → 1 ≤ i → i < length order → get_or similar i 0 ≡ alike bytes offsets (get_or order (i - 1) 0) (get_or order i 0)

-- the sizes before each module
pub record Summed (sizes order : List ℕ) (sums : List Float) : Type 0 where
  pub as_many : length sums ≡ length order
  pub each : (i : ℕ) → i < length order → get_or sums i nan ≡ sum_f64 (take i (sizes_in sizes order))

-- modules that the two tables are of, with the total of their sizes
pub record Neighbours (similar : List ℕ) (sums : List Float) (total : Float) : Type 0 where
  pub bytes : List ℕ
  pub offsets : List ℕ
  pub sizes : List ℕ
  pub order : List ℕ
  pub tables : Cuttable bytes offsets sizes order
  pub compared : Compared bytes offsets order similar
  pub summed : Summed sizes order sums
  pub whole : total ≡ sum_f64 (sizes_in sizes order)

-- the tables are of some modules, at most 4,096, and there is room for as many pieces
pub record Cuttables (similar : List ℕ) (sums : List Float) (total : Float) (starts : List ℕ) (sizes : List Float) (marks : List ℕ) : Type 0 where
  pub modules : Neighbours similar sums total
  pub few : length similar ≤ 4096
  pub some : 1 ≤ length similar
  pub starts_room : length similar ≤ length starts
  pub sizes_room : length similar ≤ length sizes
  pub marks_room : length similar ≤ length marks
