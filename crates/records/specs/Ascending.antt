-- Records that ascend along every chain.
use Rattle.std.specs.Prelude.{ℕ, suc, Bool, ◌||◌, List, eqb, ltb, get_or}
use Rattle.lists.specs.Below.{all_below}

-- each record from 1 to d has zero for its next, or a later record; record 0 is never read
unfoldable pub all_ascend : List ℕ → ℕ → Bool
unfolding all_below
all_ascend next d = all_below (λ k. eqb (get_or next (suc k) 0) 0 || ltb (suc k) (get_or next (suc k) 0)) d
