-- Records laid anew: each module's chain names the same modules as before, and its records lie side by side.
use Rattle.std.specs.Prelude.{ℕ, ◌+◌, ◌-◌, ◌≤◌, ◌<◌, true, false, ◌⊎◌, ◌≡◌, length, get_or, take}
use mathlib.Core.List.{List, Memᴰ}
use Rattle.records.specs.Chain.{dependencies, ended}
use Rattle.walk.specs.Chains.{named_from}
use Rattle.records.specs.Bad.{RecordTables, bad_records}

-- the modules that are named from record r on, where each record is followed by a lower one: so r records are enough
abbrev pub laid_from : List ℕ → List ℕ → ℕ → List ℕ
laid_from dependency next r = named_from dependency next r r

-- each record below `end` is followed by a lower one, or by none
abbrev pub Falls : List ℕ → ℕ → Type 0
Falls next end = (q : ℕ) → 1 ≤ q → q < end → get_or next q 0 < q

-- a chain that ends can be laid from record `at` on, behind those that are laid, in the first `room` words of the tables
pub record LayReady (dependency next : List ℕ) (d : ℕ) (dependency' next' : List ℕ) (from at room : ℕ) : Type 0 where
  pub few : d ≤ 65535
  pub modules : length dependency ≡ d + 1
  pub nexts : length next ≡ d + 1
  pub next_in : (r : ℕ) → 1 ≤ r → r ≤ d → get_or next r 0 ≤ d
  pub from_in : from ≤ d
  pub ends : ended next d from ≡ true
  pub modules_room : room ≤ length dependency'
  pub nexts_room : room ≤ length next'
  pub room_few : room ≤ 65536
  pub some : 1 ≤ at
  pub at_in : at ≤ room
  pub falls : Falls next' at

-- A chain laid up to its record r, from `at` to `to`: the new chain begins with `first`. What lay before it stays.
pub record Laying (dependency next : List ℕ) (d from at : ℕ) (dependency₀ next₀ : List ℕ) (first to r : ℕ) (dependency' next' : List ℕ)
    : Type 0 where
  pub modules : length dependency' ≡ length dependency₀
  pub nexts : length next' ≡ length next₀
  pub at_in : at ≤ to
  pub to_in : to ≤ length next'
  pub first_in : first < to
  pub record_in : r ≤ d
  pub ends : ended next d r ≡ true
  pub kept : (q : ℕ) → q < at → (get_or dependency' q 0 ≡ get_or dependency₀ q 0) × (get_or next' q 0 ≡ get_or next₀ q 0)
  pub falls : Falls next' to
  pub named : (q : ℕ) → at ≤ q → q < to → Memᴰ (get_or dependency' q 0) (named_from dependency next d from)
  pub there : (k : ℕ) → Memᴰ k (named_from dependency next d from)
      → Memᴰ k (laid_from dependency' next' first) ⊎ Memᴰ k (named_from dependency next d r)
  pub back : (k : ℕ) → Memᴰ k (laid_from dependency' next' first) → Memᴰ k (named_from dependency next d from)
  pub rest : (k : ℕ) → Memᴰ k (named_from dependency next d r) → Memᴰ k (named_from dependency next d from)

-- tables that refusal 7 does not turn away, and room for each module and for some records
pub record LayAllReady (first dependency next : List ℕ) (n d : ℕ) (first' dependency' next' : List ℕ) (room : ℕ) : Type 0 where
  pub tables : RecordTables first dependency next n d
  pub good : bad_records first dependency next n d ≡ false
  pub firsts : n ≤ length first'
  pub modules : room ≤ length dependency'
  pub nexts : room ≤ length next'
  pub some : 1 ≤ room
  pub few : room ≤ 65536

-- other tables of d' records for the same n modules, in which every module has the same dependencies, as a set
pub record SameDependencies (first dependency next : List ℕ) (n d : ℕ) (first' dependency' next' : List ℕ) (d' : ℕ) : Type 0 where
  pub tables : RecordTables first' dependency' next' n d'
  pub good : bad_records first' dependency' next' n d' ≡ false
  pub there : (m : ℕ) → m < n → (k : ℕ) → Memᴰ k (dependencies first dependency next d m)
      → Memᴰ k (dependencies first' dependency' next' d' m)
  pub back : (m : ℕ) → m < n → (k : ℕ) → Memᴰ k (dependencies first' dependency' next' d' m)
      → Memᴰ k (dependencies first dependency next d m)

-- The first `count` words of the two tables hold records laid anew; or the count is zero, and nothing is said of the tables. What lies behind
-- these words, and behind the first records of the n modules, is free.
pub record AllLaid (first dependency next : List ℕ) (n d count : ℕ) (first' dependency' next' : List ℕ) : Type 0 where
  pub modules : count ≤ length dependency'
  pub nexts : count ≤ length next'
  pub laid : (count ≡ 0) ⊎ SameDependencies first dependency next n d (take n first') (take count dependency') (take count next') (count - 1)
