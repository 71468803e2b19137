-- The marked modules in execution order, found by blocks of 64 places.
use Rattle.std.specs.Prelude.{ℕ, ◌/◌, ◌≤◌, ◌<◌, Bool, true, ◌≡◌, eqb, length, get_or, take}
use mathlib.Core.List.{List, Memᴰ}
use Rattle.lists.specs.Keep.{keep}
use Rattle.lists.proofs.Distinct.{Distinct}

-- the modules that are marked, in execution order
unfoldable pub marked_in : List ℕ → List ℕ → List ℕ
unfolding keep
marked_in marks order = keep (λ m. eqb (get_or marks m 0) 1) order

-- no module stands in the order twice, and there is room for the place of each
pub record PlacesFree (order place : List ℕ) : Type 0 where
  pub few : length order ≤ 4096
  pub distinct : Distinct order
  pub room : (i : ℕ) → i < length order → get_or order i 0 < length place
  pub small : (m : ℕ) → get_or place m 0 < 4096

-- the place of each module of the order
pub record PlacesAre (order place : List ℕ) : Type 0 where
  pub at : (i : ℕ) → i < length order → get_or place (get_or order i 0) 0 ≡ i
  pub small : (m : ℕ) → get_or place m 0 < 4096

-- the block of a module's place
abbrev pub block_of : List ℕ → ℕ → ℕ
block_of place m = get_or place m 0 / 64

-- each module of the list has a place, and each place a block
pub record BlocksReady (list place blocks : List ℕ) : Type 0 where
  pub has_place : (i : ℕ) → i < length list → get_or list i 0 < length place
  pub small : (m : ℕ) → get_or place m 0 < 4096
  pub all_blocks : length blocks ≡ 64

-- each module has a mark, there is room for all of them, and blocks with a marked one are marked
pub record MarkedReady (order marks blocks area : List ℕ) : Type 0 where
  pub few : length order ≤ 4096
  pub all_blocks : length blocks ≡ 64
  pub has_mark : (i : ℕ) → i < length order → get_or order i 0 < length marks
  pub room : length order ≤ length area
  pub in_block : (i : ℕ) → i < length order → get_or marks (get_or order i 0) 0 ≡ 1 → get_or blocks (i / 64) 0 ≡ 1

-- what is marked is on the list, whose modules have their places
pub record FoundReady (order place list marks area : List ℕ) : Type 0 where
  pub few : length order ≤ 4096
  pub places : PlacesAre order place
  pub has_place : (i : ℕ) → i < length list → get_or list i 0 < length place
  pub has_mark : (i : ℕ) → i < length order → get_or order i 0 < length marks
  pub listed : (i : ℕ) → i < length order → get_or marks (get_or order i 0) 0 ≡ 1 → Memᴰ (get_or order i 0) list
  pub room : length order ≤ length area

-- each module of the list has a mark
abbrev pub HasMark : List ℕ → List ℕ → Type 0
HasMark marks list = (i : ℕ) → i < length list → get_or list i 0 < length marks

-- the first `count` words of the area are modules, and, where a walk found its starts alone, all that is marked is among them, in execution order
pub record FrontReady (alone : Bool) (count : ℕ) (order marks area : List ℕ) : Type 0 where
  pub fits : count ≤ length area
  pub has_mark : HasMark marks (take count area)
  pub same : alone ≡ true → marked_in marks (take count area) ≡ marked_in marks order
