-- The bits of one u64 word.
use Rattle.std.specs.Prelude.{ℕ, ◌+◌, ◌/◌, ◌%◌, ◌^◌, Bool, not, ◌&&◌, ◌||◌, eqb, leb}
use Rattle.lists.specs.Below.{all_below, any_below}

-- whether bit k of a word is set, bit 0 being the lowest
unfoldable pub bit : ℕ → ℕ → Bool
bit word k = eqb (word / 2 ^ k % 2) 1

-- "tags contain the mask": each of the 64 bits that the mask has, the word has
unfoldable pub contains : ℕ → ℕ → Bool
unfolding all_below bit
contains word mask = all_below (λ k. not (bit mask k) || bit word k) 64

-- a word whose lowest bit has the number `base` has a bit of the number `from` or above
unfoldable pub any_from : ℕ → ℕ → ℕ → Bool
unfolding any_below bit
any_from word base from = any_below (λ k. leb from (base + k) && bit word k) 64
