-- Where characters start in bytes that are text.
use Rattle.std.specs.Prelude.{ℕ, zero, suc, Bool, not, cond, List, get_or}
use Rattle.utf8.specs.Table.{among, tail}

-- no tail stands at i; past the last byte none does
unfoldable pub starts_at : List ℕ → ℕ → Bool
starts_at l i = not (among tail (get_or l i 0))

-- "at byte i, or further back to the start of a character"
unfoldable pub start_back : List ℕ → ℕ → ℕ
unfolding starts_at
start_back l zero = zero
start_back l (suc i) = cond (starts_at l (suc i)) (suc i) (start_back l i)
