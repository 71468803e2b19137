-- The seekers by blocks of 16 numbers: for each block a number that stands for it, so that a search looks at one number of each block.
use Rattle.std.specs.Prelude.{ℕ, ◌*◌, ◌/◌, ◌≤◌, ◌<◌, Bool, cond, List, [], ◌∷◌, map, ◌≡◌, Float, length, get_or}
use Rattle.std.proofs.Math.Option.{Option}
use Rattle.lists.specs.Keep.{keep}
use Rattle.lists.specs.Least.{least}
use Rattle.lists.specs.Range.{range}
use Rattle.joins.specs.Candidate.{seeking, comes_first, seeker_at}
use Rattle.joins.specs.declared.candidate.Candidate.{Candidate}

-- what a search finds that looks for a seeker among the numbers of a list
unfoldable pub first_seeker : Float → List ℕ → List ℕ → Option Candidate
unfolding keep least seeking comes_first seeker_at
first_seeker threshold sizes l = least comes_first (keep (seeking threshold) (map (seeker_at sizes) l))

-- number i seeks
abbrev pub seeks_at : Float → List ℕ → ℕ → Bool
seeks_at threshold sizes i = seeking threshold (seeker_at sizes i)

-- number i comes before number j where a seeker is looked for
abbrev pub seeks_before : List ℕ → ℕ → ℕ → Bool
seeks_before sizes i j = comes_first (seeker_at sizes i) (seeker_at sizes j)

-- the one of two that stands for both: i if it seeks and is the first of the two that does
unfoldable pub ahead : Float → List ℕ → ℕ → ℕ → ℕ
unfolding seeking comes_first seeker_at
ahead threshold sizes best i = cond (seeks_at threshold sizes i) (cond (seeks_at threshold sizes best) (cond (seeks_before sizes i best) i best) i) best

-- f stands for block j, the 16 numbers from 16 j on: it is one of them, and the one that seeks first if any of them seeks
pub record StandsFor (threshold : Float) (sizes : List ℕ) (j f : ℕ) : Type 0 where
  pub inside : f < length sizes
  pub of_block : f / 16 ≡ j
  pub first : first_seeker threshold sizes (f ∷ []) ≡ first_seeker threshold sizes (range (16 * j) 16)

-- each of the numbers `heads` stands for its block, and the blocks have all numbers
pub record Heads (threshold : Float) (sizes heads : List ℕ) : Type 0 where
  pub all : length sizes ≤ 16 * length heads
  pub stand : (j : ℕ) → j < length heads → StandsFor threshold sizes j (get_or heads j 0)

-- block j was looked through afresh, the others stand as they did
pub record Refreshed (threshold : Float) (sizes : List ℕ) (j : ℕ) (heads heads' : List ℕ) : Type 0 where
  pub here : StandsFor threshold sizes j (get_or heads' j 0)
  pub others : (i : ℕ) → (i ≡ j → ⊥) → get_or heads' i 0 ≡ get_or heads i 0
