-- The records that a walk has followed, a byte for each, in the part of it that marks them: a chain is left where it joins one that was followed
-- before. At the end the marks are undone along the chains that were followed (`forget`).
use Rattle.std.specs.Prelude.{ℕ, ◌≤◌, List, ◌≡◌, get_or}
use Rattle.records.specs.Marks.{ChainMarks}
use Rattle.walk.specs.Names.{Eligible}

-- The records that are marked as followed: what they name is marked, if it is eligible. With zero for `at` their chains were followed whole, else
-- one of them up to the record `at`.
pub record Followed (flags dependency next : List ℕ) (d : ℕ) (marks followed : List ℕ) (at : ℕ) : Type 0 where
  pub chains : ChainMarks next d followed at
  pub done : (r : ℕ) → 1 ≤ r → r ≤ d → get_or followed r 0 ≡ 1 → Eligible flags (get_or dependency r 0) → get_or marks (get_or dependency r 0) 0 ≡ 1
