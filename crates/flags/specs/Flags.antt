-- "a flag byte (1 normal, 2 included, 4 already assigned, summed)". Bits are tested by mask, also in a byte above 7.
use Rattle.std.specs.Prelude.{ℕ, Bool, not, ◌&&◌, List, ltb, get_or}
use Rattle.lists.specs.Below.{any_below}
use Rattle.bitset.specs.Word.{bit}

-- a normal included module
unfoldable pub listed : ℕ → Bool
unfolding bit
listed flags = bit flags 0 && bit flags 1

-- already assigned to a chunk
unfoldable pub assigned : ℕ → Bool
unfolding bit
assigned flags = bit flags 2

-- "A module is eligible when normal, included and not assigned."
unfoldable pub eligible : ℕ → Bool
unfolding listed assigned
eligible flags = listed flags && not (assigned flags)

-- module m is eligible, read off the table of flag bytes
unfoldable pub eligible_at : List ℕ → ℕ → Bool
unfolding eligible
eligible_at flags m = eligible (get_or flags m 0)

-- refusal 9: "a flag byte above 7", among n modules
unfoldable pub bad_flags : List ℕ → ℕ → Bool
unfolding any_below
bad_flags flags n = any_below (λ m. ltb 7 (get_or flags m 0)) n
