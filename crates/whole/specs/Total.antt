-- Refusal 6: sizes add to more than 2^53. The sum is the true one, so that sizes which would wrap a u64 are refused too.
use Rattle.std.specs.Prelude.{ℕ, ◌^◌, Bool, List, ltb}
use Rattle.lists.specs.Sum.{sum}

-- the largest total that is accepted: up to it every whole number is a double
abbrev pub total_limit : ℕ
total_limit = 2 ^ 53

unfoldable pub total_exceeds : List ℕ → Bool
total_exceeds sizes = ltb total_limit (sum sizes)
