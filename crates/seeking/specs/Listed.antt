-- The list of the numbers that are still there, and beside it the first word of each one's row.
use Rattle.std.specs.Prelude.{ℕ, zero, suc, ◌+◌, ◌*◌, ◌-◌, ◌≤◌, ◌<◌, cond, List, ◌++◌, map, ◌≡◌, ltb, length, get_or, set, take, drop}
use Rattle.lists.specs.Range.{range}
use Rattle.joins.specs.Candidate.{ones_apart}

-- each number is above those before it
abbrev pub Ascends : List ℕ → Type 0
Ascends l = (i j : ℕ) → i < j → j < length l → get_or l i 0 < get_or l j 0

-- a number stands at a place of a list
pub record StandsAt (l : List ℕ) (number place : ℕ) : Type 0 where
  pub inside : place < length l
  pub its : get_or l place 0 ≡ number

-- beside each number of a list the first word of its row
pub record FirstWords (there words bits : List ℕ) : Type 0 where
  pub room : length there ≤ length words
  pub each : (i : ℕ) → i < length there → get_or words i 0 ≡ get_or bits (4 * get_or there i 0) 0

-- ---- the words of a block

abbrev pub fewer : ℕ → ℕ → ℕ
fewer a b = cond (ltb a b) a b

-- the fewest entries that tell one of n words, from place `from` on, from the wanted one; 64 where there is none
unfoldable pub fewest : List ℕ → ℕ → ℕ → ℕ → ℕ
fewest words wanted from zero = 64
fewest words wanted from (suc n) = fewer (ones_apart wanted (get_or words (from + n) 0)) (fewest words wanted from n)

-- the fewest of each block of 16 words, from the first on
unfoldable pub fewest_of_blocks : List ℕ → ℕ → ℕ → List ℕ
unfolding fewest range
fewest_of_blocks words wanted blocks = map (λ j. fewest words wanted (16 * j) 16) (range 0 blocks)

-- ---- changes

-- the list without what stands at place i
unfoldable pub without : ℕ → List ℕ → List ℕ
without i l = take i l ++ drop (suc i) l

-- a number was taken off the list, and the word beside it
pub record Removed (number : ℕ) (list words list' words' : List ℕ) : Type 0 where
  pub place : ℕ
  pub at : StandsAt list number place
  pub new_list : take (length list - 1) list' ≡ without place list
  pub new_words : take (length list - 1) words' ≡ without place words

-- the word beside a number was written again
pub record Rewritten (number : ℕ) (there bits words words' : List ℕ) : Type 0 where
  pub place : ℕ
  pub at : StandsAt there number place
  pub new_words : words' ≡ set words place (get_or bits (4 * number) 0)
