-- The records that a walk has marked as followed, a byte for each, and their marks undone along the chains that were followed.
use Rattle.std.specs.Prelude.{ℕ, ◌≤◌, ◌<◌, true, ◌⊎◌, ◌≡◌, length, get_or, replicate}
use mathlib.Core.List.{List, Memᴰ}
use Rattle.records.specs.Chain.{chain_of, ended}
use Rattle.records.specs.Marks.{ChainMarks}

-- a byte for each record that there can be, and none is marked as followed
unfoldable pub unfollowed : List ℕ
unfollowed = replicate 65536 0

-- Marks of records are undone along chains: where one of `whole` is undone, its next is too, or is the record `at` up to which a chain is undone.
pub record Undoing (next : List ℕ) (d : ℕ) (whole marks : List ℕ) (at : ℕ) : Type 0 where
  pub chains : ChainMarks next d whole 0
  pub room : d < length marks
  pub end : get_or marks 0 0 ≡ 0
  pub on : (r : ℕ) → 1 ≤ r → r ≤ d → get_or whole r 0 ≡ 1 → get_or marks r 0 ≡ 0 → (get_or next r 0 ≡ at) ⊎ (get_or marks (get_or next r 0) 0 ≡ 0)

-- a chain that ends, whose records were all marked before any mark was undone
pub record ForgetReady (next followed : List ℕ) (d from : ℕ) : Type 0 where
  pub within : d < length next
  pub next_in : (r : ℕ) → 1 ≤ r → r ≤ d → get_or next r 0 ≤ d
  pub from_in : from ≤ d
  pub ends : ended next d from ≡ true
  pub whole : List ℕ
  pub undoing : Undoing next d whole followed 0
  pub marked : get_or whole from 0 ≡ 1

-- a list of modules, whose chains are marked as followed, and no other record but zero, which ends them
pub record AllFollowed (first next list followed : List ℕ) (d : ℕ) : Type 0 where
  pub chains : ChainMarks next d followed 0
  pub bytes : length followed ≡ 65536
  pub each : (i : ℕ) → i < length list → get_or followed (get_or first (get_or list i 0) 0) 0 ≡ 1
  pub only : (r : ℕ) → get_or followed r 0 ≡ 1 → (r ≡ 0) ⊎ ((i : ℕ) × (i < length list) × Memᴰ r (chain_of first next d (get_or list i 0)))

-- the modules of the list have chains that end
pub record ForgetAllReady (first next list followed : List ℕ) (d : ℕ) : Type 0 where
  pub within : d < length next
  pub next_in : (r : ℕ) → 1 ≤ r → r ≤ d → get_or next r 0 ≤ d
  pub list_in : (i : ℕ) → i < length list → get_or list i 0 < length first
  pub first_in : (i : ℕ) → i < length list → get_or first (get_or list i 0) 0 ≤ d
  pub ends : (i : ℕ) → i < length list → ended next d (get_or first (get_or list i 0) 0) ≡ true
  pub marks : AllFollowed first next list followed d
