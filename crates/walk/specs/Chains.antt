-- Chains that are gone along to their ends, with no record marked: one alone, or four side by side.
use Rattle.std.specs.Prelude.{ℕ, ◌+◌, ◌*◌, ◌≤◌, ◌<◌, Bool, true, not, ◌&&◌, ◌≡◌, eqb, length, get_or, take, drop}
use mathlib.Core.List.{List, [], ◌∷◌, map, flat_map, Memᴰ}
use Rattle.records.specs.Chain.{chain_from, dependencies, ended}
use Rattle.walk.specs.Walk.{Walk, WalkState, WalkTables}

-- the modules named from record r on
abbrev pub named_from : List ℕ → List ℕ → ℕ → ℕ → List ℕ
named_from dependency next d r = map (λ r. get_or dependency r 0) (chain_from next d r)

-- the modules named from the records rs on
abbrev pub named_from_all : List ℕ → List ℕ → ℕ → List ℕ → List ℕ
named_from_all dependency next d rs = flat_map (named_from dependency next d) rs

-- the modules named by the `count` modules from place `head` of a list on
abbrev pub named_by_part : List ℕ → List ℕ → List ℕ → ℕ → List ℕ → ℕ → ℕ → List ℕ
named_by_part first dependency next d queue head count = flat_map (dependencies first dependency next d) (take count (drop head queue))

-- no chain has come to its end, where they are at the records rs
unfoldable pub go_on : List ℕ → Bool
go_on [] = true
go_on (r ∷ rs) = not (eqb r 0) && go_on rs

-- d records of n modules that chains can be gone along: none leads out of the table, and each names a module
pub record LinkTables (dependency next : List ℕ) (n d : ℕ) : Type 0 where
  pub few : d ≤ 65535
  pub modules : length dependency ≡ d + 1
  pub nexts : length next ≡ d + 1
  pub next_in : (r : ℕ) → 1 ≤ r → r ≤ d → get_or next r 0 ≤ d
  pub module_in : (r : ℕ) → 1 ≤ r → r ≤ d → get_or dependency r 0 < n

-- a chain can be gone along from record r on
pub record Chain (next : List ℕ) (d r : ℕ) : Type 0 where
  pub record_in : r ≤ d
  pub ends : ended next d r ≡ true

-- The same to its end, where so few records were gone along before that its own can be counted.
pub record FollowPlainReady (flags dependency next : List ℕ) (n d : ℕ) (w : Walk) (gone from : ℕ) : Type 0 where
  pub tables : LinkTables dependency next n d
  pub state : WalkState flags n w
  pub few : gone ≤ 7 * d
  pub chain : Chain next d from

-- the chains from the records rs on can be gone along to their ends, after no more than `most` records
pub record FollowAllReady (flags dependency next : List ℕ) (n d : ℕ) (w : Walk) (gone most : ℕ) (rs : List ℕ) : Type 0 where
  pub tables : LinkTables dependency next n d
  pub state : WalkState flags n w
  pub few : gone ≤ most
  pub chains : (r : ℕ) → Memᴰ r rs → Chain next d r

-- the modules that the records rs name can be visited
pub record RecordsReady (flags dependency : List ℕ) (w : Walk) (rs : List ℕ) : Type 0 where
  pub state : WalkState flags (length flags) w
  pub record_in : (r : ℕ) → Memᴰ r rs → r < length dependency
  pub module_in : (r : ℕ) → Memᴰ r rs → get_or dependency r 0 < length flags

-- the module at a place of the list has a first record
pub record FirstReady (first queue : List ℕ) (place : ℕ) : Type 0 where
  pub place_in : place < length queue
  pub module_in : get_or queue place 0 < length first

-- four modules can be taken off the list at place `head`, after no more records than there are
pub record TakeFourReady (flags first dependency next : List ℕ) (n d : ℕ) (w : Walk) (gone head : ℕ) : Type 0 where
  pub tables : WalkTables flags first dependency next n d
  pub state : WalkState flags n w
  pub few : gone ≤ d
  pub four : head + 4 ≤ w.tail
