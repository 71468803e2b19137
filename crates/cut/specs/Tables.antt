-- Modules in an order of their own, as two tables say it.
use Rattle.std.specs.Prelude.{ℕ, ◌+◌, ◌-◌, ◌^◌, ◌≤◌, ◌<◌, List, [], ◌≡◌, Float, length, get_or, take}
use Rattle.std.specs.Float.{nan}
use Rattle.lists.specs.Sum.{sum}
use Rattle.whole.specs.Double.{to_f64, sum_f64}
use Rattle.similarity.specs.Similarity.{similarity}

-- Ids and sizes that the tables are of: how alike each id is to the one before it, and the sizes that lie before each module. What the first id is
-- compared with is free, and so is what lies before the first module: a part of the tables of more modules has both.
pub record Tabled (similar : List ℕ) (sums : List Float) (total : Float) : Type 0 where
  pub ids : List (List ℕ)
  pub sizes : List ℕ
  pub as_many : length ids ≡ length similar
  pub alike : (i : ℕ) → 1 ≤ i → i < length similar → get_or similar i 0 ≡ similarity (get_or ids (i - 1) []) (get_or ids i [])
  pub before : ℕ
  pub summed : (i : ℕ) → i < length similar → get_or sums i nan ≡ to_f64 (before + sum (take i sizes))
  pub exact : before + sum sizes ≤ 2 ^ 53
  pub whole : total ≡ sum_f64 sizes
