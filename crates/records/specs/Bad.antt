-- Refusal 7: "a first record above D, in any record from 1 to D a next above D or a module not below N, or a chain without its zero within D records".
use Rattle.std.specs.Prelude.{ℕ, suc, ◌+◌, ◌≤◌, ◌<◌, Bool, not, ◌||◌, List, ◌≡◌, ltb, leb, length, get_or}
use Rattle.lists.specs.Below.{any_below}
use Rattle.records.specs.Chain.{ended}

-- "a first record above D"
unfoldable pub bad_first : List ℕ → ℕ → ℕ → Bool
unfolding any_below
bad_first first n d = any_below (λ m. ltb d (get_or first m 0)) n

-- "in any record from 1 to D a next above D or a module not below N"; record 0 is never read
unfoldable pub bad_record : List ℕ → List ℕ → ℕ → ℕ → Bool
unfolding any_below
bad_record dependency next n d = any_below (λ k. ltb d (get_or next (suc k) 0) || leb n (get_or dependency (suc k) 0)) d

-- "a chain without its zero within D records"
unfoldable pub bad_chain : List ℕ → List ℕ → ℕ → ℕ → Bool
unfolding any_below ended
bad_chain first next n d = any_below (λ m. not (ended next d (get_or first m 0))) n

unfoldable pub bad_records : List ℕ → List ℕ → List ℕ → ℕ → ℕ → Bool
unfolding bad_first bad_record bad_chain
bad_records first dependency next n d = bad_first first n d || (bad_record dependency next n d || bad_chain first next n d)

-- tables of the lengths that n modules and d records imply, of which there are no more than the limits allow
pub record RecordTables (first dependency next : List ℕ) (n d : ℕ) : Type 0 where
  pub few_modules : n ≤ 4096
  pub few : d ≤ 65535
  pub firsts : length first ≡ n
  pub modules : length dependency ≡ d + 1
  pub nexts : length next ≡ d + 1

-- chains can be walked: no first and no next leads out of the table
pub record ChainTables (first next : List ℕ) (n d : ℕ) : Type 0 where
  pub few : d ≤ 65535
  pub firsts : n ≤ length first
  pub nexts : length next ≡ d + 1
  pub first_in : (m : ℕ) → m < n → get_or first m 0 ≤ d
  pub next_in : (r : ℕ) → 1 ≤ r → r ≤ d → get_or next r 0 ≤ d
