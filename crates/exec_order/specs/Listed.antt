-- Modules that are kept in the first entries of an area.
use Rattle.std.specs.Prelude.{ℕ, ◌≤◌, ◌<◌, List, ◌≡◌, length, get_or, take}
use Rattle.lists.specs.Keep.{keep}
use Rattle.lists.specs.Range.{range}
use Rattle.flags.specs.Flags.{listed}

-- the normal included modules, by number
unfoldable pub listed_in : List ℕ → List ℕ
unfolding keep range listed
listed_in flags = keep (λ m. listed (get_or flags m 0)) (range 0 (length flags))

-- r modules stand in the first entries of the area: those of l
pub record Kept (l : List ℕ) (r : ℕ) (entry exit : List ℕ) : Type 0 where
  pub count : r ≡ length l
  pub first : take r exit ≡ l
  pub same_length : length exit ≡ length entry

-- at most 4,096 modules, and an entry for each
pub record Room (flags area : List ℕ) : Type 0 where
  pub few : length flags ≤ 4096
  pub fits : length flags ≤ length area

-- the modules of a list have flags, and there is an entry for each
pub record Chosen (flags list area : List ℕ) : Type 0 where
  pub has_flags : (i : ℕ) → i < length list → get_or list i 0 < length flags
  pub fits : length list ≤ length area
