-- Marks of records along chains, a byte for each record, by which a chain is left where it joins one that was gone along before.
use Rattle.std.specs.Prelude.{ℕ, ◌≤◌, ◌<◌, true, List, ◌⊎◌, ◌≡◌, length, get_or, replicate}
use Rattle.records.specs.Chain.{ended}

-- a byte for each of d records and for zero, none of them marked
pub record Unmarked (marks : List ℕ) (d : ℕ) : Type 0 where
  pub room : d < length marks
  pub clear : marks ≡ replicate (length marks) 0

-- Each byte is 1 or 0. Zero, which ends a chain, is marked, and marks go on along a chain: the next of a marked record is marked too, or is
-- the record `at` up to which a chain is marked so far. With zero for `at` no chain is left off.
pub record ChainMarks (next : List ℕ) (d : ℕ) (marks : List ℕ) (at : ℕ) : Type 0 where
  pub room : d < length marks
  pub byte : (r : ℕ) → (get_or marks r 0 ≡ 1) ⊎ (get_or marks r 0 ≡ 0)
  pub end : get_or marks 0 0 ≡ 1
  pub on : (r : ℕ) → 1 ≤ r → r ≤ d → get_or marks r 0 ≡ 1 → (get_or next r 0 ≡ at) ⊎ (get_or marks (get_or next r 0) 0 ≡ 1)

-- the marked records are known to end within d records
pub record Known (next : List ℕ) (d : ℕ) (known : List ℕ) : Type 0 where
  pub marks : ChainMarks next d known 0
  pub ends : (r : ℕ) → r ≤ d → get_or known r 0 ≡ 1 → ended next d r ≡ true

-- a chain that ends, and marks that can be put on its records
pub record KnowReady (next known : List ℕ) (d from : ℕ) : Type 0 where
  pub within : d < length next
  pub next_in : (r : ℕ) → 1 ≤ r → r ≤ d → get_or next r 0 ≤ d
  pub marks : ChainMarks next d known 0
  pub from_in : from ≤ d
  pub ends : ended next d from ≡ true
