-- The set of one name, in execution order.
use Rattle.std.specs.Prelude.{ℕ, ◌-◌, ◌≤◌, ◌<◌, Bool, true, false, List, map, ◌≡◌, length, get_or, replicate}
use Rattle.lists.specs.Packed.{item_of}
use Rattle.lists.proofs.Sort.{Pairs}
use Rattle.forget.specs.Unfollowed.{unfollowed}
use Rattle.walk.specs.Walk.{WalkTables}
use Rattle.lists.specs.Area.{Holds}
use Rattle.sets.specs.Captured.{AllCaptured}
use Rattle.sets.specs.Gathered.{marked_in, PlacesAre}

-- the module at the place of a number that holds a name and a place
abbrev pub start_at : List ℕ → ℕ → ℕ
start_at order x = get_or order (item_of x) 0

-- the modules of a run
abbrev pub starts_of : List ℕ → List ℕ → List ℕ
starts_of order run = map (start_at order) run

-- each number of the run holds a place of the order
abbrev pub Placed : List ℕ → List ℕ → Type 0
Placed run order = (i : ℕ) → i < length run → item_of (get_or run i 0) < length order

-- the tables of a walk, with nothing marked, the place of each module, places for the run, in execution order, and room for all modules
pub record SetReady (flags first dependency next order place run marks queue followed area : List ℕ) : Type 0 where
  pub tables : WalkTables flags first dependency next (length flags) (length next - 1)
  pub unmarked : marks ≡ replicate (length flags) 0
  pub queue_room : length flags ≤ length queue
  pub clear : followed ≡ unfollowed
  pub few : length order ≤ 4096
  pub modules_in : (i : ℕ) → i < length order → get_or order i 0 < length flags
  pub places : PlacesAre order place
  pub place_room : length flags ≤ length place
  pub placed : Placed run order
  pub rising : Pairs ◌<◌ (map item_of run)
  pub room : length order ≤ length area
  pub run_room : length run ≤ length area

-- what the modules of the run capture, in execution order
pub record SetCaptured (flags first dependency next order run : List ℕ) (count : ℕ) (area : List ℕ) : Type 0 where
  pub marks : List ℕ
  pub marked : AllCaptured flags first dependency next (starts_of order run) marks
  pub holds : Holds (marked_in marks order) count area

-- "puts its capture into the set of its (group, name)"; "with recursion off, the start alone"
pub record SetBuilt (recursive : Bool) (flags first dependency next order run : List ℕ) (count : ℕ) (area : List ℕ) : Type 0 where
  pub alone : recursive ≡ false → Holds (starts_of order run) count area
  pub captured : recursive ≡ true → SetCaptured flags first dependency next order run count area
