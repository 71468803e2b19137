-- The ranks of modules among their ids.
use Rattle.std.specs.Prelude.{ℕ, ◌+◌, ◌-◌, ◌≤◌, ◌<◌, Bool, false, ◌≡◌, length, get_or}
use mathlib.Core.List.{List, Memᴰ}
use Rattle.lists.specs.Below.{any_below}
use Rattle.lists.specs.Same.{same_numbers}
use Rattle.lists.specs.Sort.{sort_by}
use Rattle.ids.specs.Parts.{id_at}
use Rattle.orders.specs.ById.{by_id, Named}
use Rattle.exec_order.specs.AnyTwo.{any_two}

-- modules l and m have the same id
abbrev pub same_id : List ℕ → List ℕ → ℕ → ℕ → Bool
same_id bytes offsets l m = same_numbers (id_at bytes offsets l) (id_at bytes offsets m)

-- the modules at i and i + 1 of the list have the same id
unfoldable pub tied_at : List ℕ → List ℕ → List ℕ → ℕ → Bool
unfolding same_numbers id_at
tied_at bytes offsets list i = same_id bytes offsets (get_or list i 0) (get_or list (i + 1) 0)

-- two neighbours of the list have the same id
unfoldable pub neighbours_tie : List ℕ → List ℕ → List ℕ → Bool
unfolding any_below tied_at
neighbours_tie bytes offsets list = any_below (tied_at bytes offsets list) (length list - 1)

-- ---- ranks

-- a list without repeats that fits its numbers, and an entry for each module of it
pub record HasRanks (list rank : List ℕ) : Type 0 where
  pub few : length list ≤ 4096
  pub distinct : (i j : ℕ) → i < j → j < length list → get_or list i 0 ≡ get_or list j 0 → ⊥
  pub has_rank : (i : ℕ) → i < length list → get_or list i 0 < length rank

-- each module of the list has its position there as its rank, and the others have what they had
pub record Ranks (list rank rank' : List ℕ) : Type 0 where
  pub same_length : length rank' ≡ length rank
  pub position : (i : ℕ) → i < length list → get_or rank' (get_or list i 0) 0 ≡ i
  pub others : (m : ℕ) → (Memᴰ m list → ⊥) → get_or rank' m 0 ≡ get_or rank m 0

-- at most 4,096 modules with an id and an entry each
pub record Rankable (bytes offsets list rank : List ℕ) : Type 0 where
  pub few : length list ≤ 4096
  pub named : Named bytes offsets list
  pub has_rank : (m : ℕ) → Memᴰ m list → m < length rank

-- with an area that is as long as the list
pub record RankArea (bytes offsets list rank spare : List ℕ) : Type 0 where
  pub modules : Rankable bytes offsets list rank
  pub spare_length : length list ≡ length spare

-- The answer: two modules of the list share an id. Where none do, each has its position in id order as its rank.
pub record RankedById (bytes offsets list : List ℕ) (r : Bool) (rank rank' : List ℕ) : Type 0 where
  pub shared : r ≡ any_two (same_id bytes offsets) list
  pub ranked : r ≡ false → Ranks (sort_by (by_id bytes offsets) list) rank rank'
  pub same_length : length rank' ≡ length rank
