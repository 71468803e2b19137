-- The positions of a set, listed by the subgroup that each ends in: subgroups by the lowest rank that a module in them has, positions of one subgroup
-- in execution order. Ranks follow ids, so the lowest rank stands for the smallest id.
use Rattle.std.specs.Prelude.{ℕ, ◌<◌, ◌≤◌, ◌≡◌, ltb, eqb, length, get_or}
use mathlib.Core.List.{List, map, foldl}
use Rattle.lists.specs.Keep.{keep}
use Rattle.lists.specs.Least.{earlier}
use Rattle.lists.specs.Packed.{packed}
use Rattle.lists.specs.Range.{range}
use Rattle.lists.specs.Sort.{sort_by}

-- the number that the kind of position i has ended as
abbrev pub number_at : List ℕ → List ℕ → ℕ → ℕ
number_at finals kind_of i = get_or finals (get_or kind_of i 0) 0

-- position i with that number
abbrev pub position_key : List ℕ → List ℕ → ℕ → ℕ
position_key finals kind_of i = packed (number_at finals kind_of i) i

-- the lowest rank of modules, and 4,096 if there are none
unfoldable pub lowest_rank : List ℕ → List ℕ → ℕ
lowest_rank rank modules = foldl (earlier ltb) 4096 (map (λ m. get_or rank m 0) modules)

-- the modules of subgroup s among the first n positions
unfoldable pub modules_of : List ℕ → List ℕ → List ℕ → ℕ → ℕ → List ℕ
unfolding keep range
modules_of finals kind_of set n s = map (λ i. get_or set i 0) (keep (λ i. eqb (number_at finals kind_of i) s) (range 0 n))

-- the lowest rank in each of the subgroups below k, so far as the first n positions tell
unfoldable pub lowest_ranks : List ℕ → List ℕ → List ℕ → List ℕ → ℕ → ℕ → List ℕ
unfolding lowest_rank modules_of range
lowest_ranks finals kind_of set rank k n = map (λ s. lowest_rank rank (modules_of finals kind_of set n s)) (range 0 k)

-- the lowest rank in the subgroup of position i
unfoldable pub lowest_at : List ℕ → List ℕ → List ℕ → List ℕ → ℕ → ℕ
unfolding lowest_rank modules_of
lowest_at finals kind_of set rank i = lowest_rank rank (modules_of finals kind_of set (length kind_of) (number_at finals kind_of i))

-- the positions in the order of their subgroups, each with its number
unfoldable pub divided : List ℕ → List ℕ → List ℕ → List ℕ → List ℕ
unfolding sort_by lowest_at range
divided finals kind_of set rank =
    let lowest = lowest_at finals kind_of set rank in
    map (position_key finals kind_of) (sort_by (λ i j. ltb (lowest i) (lowest j)) (range 0 (length kind_of)))

-- at most 4,096 positions; each one's kind has ended as a number below their count, and its module has a rank
pub record Divisible (finals kind_of set rank : List ℕ) : Type 0 where
  pub count : length kind_of ≤ 4096
  pub modules : length set ≡ length kind_of
  pub has_final : (i : ℕ) → i < length kind_of → get_or kind_of i 0 < length finals
  pub below : (i : ℕ) → i < length kind_of → number_at finals kind_of i < length kind_of
  pub has_rank : (i : ℕ) → i < length kind_of → get_or set i 0 < length rank

-- the areas of a division of n positions
pub record DivisionRoom (n : ℕ) (keys spare order : List ℕ) : Type 0 where
  pub keys_fit : length keys ≡ n
  pub spare_room : n ≤ length spare
  pub order_fits : length order ≡ n
