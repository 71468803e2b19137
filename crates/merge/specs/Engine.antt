-- What the engine's tables say between two joins: a subgroup is still there just where its number is its own.
use Rattle.std.specs.Prelude.{ℕ, ◌+◌, ◌*◌, ◌-◌, ◌<◌, ◌≤◌, Bool, true, false, cond, List, map, ◌≡◌, eqb, Float, length, get_or, set, take}
use Rattle.std.specs.Float.Ieee.{to_unsigned}
use Rattle.lists.specs.Keep.{keep}
use Rattle.lists.specs.Range.{range}
use Rattle.bitset.specs.Entries.{empty, row_of}
use Rattle.bitset.specs.Rows.{with_row}
use Rattle.joins.specs.Subgroup.{Subgroup, united}
use Rattle.joins.specs.Held.{vanished}
use Rattle.seeking.specs.Listed.{FirstWords}
use Rattle.seeking.specs.Seekers.{Heads}
use Rattle.merge.specs.Merge.{Merging, Join, stop, joins, next_join, follow, merge_steps}
use Rattle.merge.specs.Tables.{subgroup_at, final_sizes, final_bits, Mergeable}

abbrev pub is_there : List ℕ → ℕ → Bool
is_there numbers i = eqb (get_or numbers i 0) i

-- the numbers of the subgroups that are still there, ascending
unfoldable pub listed : List ℕ → List ℕ
unfolding keep range
listed numbers = keep (is_there numbers) (range 0 (length numbers))

-- the subgroups that are still there, by ascending number
unfoldable pub there_in : List ℕ → List ℕ → List ℕ → List Subgroup
unfolding keep range subgroup_at
there_in numbers sizes bits = map (subgroup_at sizes bits) (keep (is_there numbers) (range 0 (length numbers)))

-- the merge so far
abbrev pub state_of : List ℕ → List ℕ → List ℕ → Merging
state_of numbers sizes bits = record { there = there_in numbers sizes bits; finals = numbers }

-- between two joins: the tables fit, and the rows of vanished subgroups are zero
pub record Sound (numbers sizes bits : List ℕ) : Type 0 where
  pub tables : Mergeable numbers sizes bits
  pub no_size : (i : ℕ) → i < length numbers → is_there numbers i ≡ false → get_or sizes i 0 ≡ 0
  pub no_bits : (i : ℕ) → i < length numbers → is_there numbers i ≡ false → row_of bits i ≡ empty

-- ---- one join in the tables

-- whatever had the number s has t
abbrev pub renamed : ℕ → ℕ → ℕ → ℕ
renamed s t n = cond (eqb n s) t n

-- a subgroup written to its row
abbrev pub with_size : List ℕ → Subgroup → List ℕ
with_size sizes u = set sizes u.number (to_unsigned 64 u.size)

abbrev pub with_bits : List ℕ → Subgroup → List ℕ
with_bits bits u = with_row bits u.number u.bits

-- the tables have a row i
pub record InRow (sizes bits : List ℕ) (i : ℕ) : Type 0 where
  pub has_size : i < length sizes
  pub has_bits : 4 * i + 4 ≤ length bits

-- a subgroup that the tables have and that is still there
pub record Standing (numbers sizes bits : List ℕ) (u : Subgroup) : Type 0 where
  pub inside : u.number < length numbers
  pub still : is_there numbers u.number ≡ true
  pub is : u ≡ subgroup_at sizes bits u.number

-- s can join t: two subgroups that are still there
pub record Joinable (s t : Subgroup) (numbers sizes bits : List ℕ) : Type 0 where
  pub tables : Mergeable numbers sizes bits
  pub seeker : Standing numbers sizes bits s
  pub target : Standing numbers sizes bits t
  pub apart : t.number ≡ s.number → ⊥

-- the tables after s has joined t
pub record JoinedTables (s t : Subgroup) (numbers sizes bits numbers' sizes' bits' : List ℕ) : Type 0 where
  pub new_numbers : numbers' ≡ map (renamed s.number t.number) numbers
  pub new_sizes : sizes' ≡ with_size (with_size sizes (united s t)) (vanished s)
  pub new_bits : bits' ≡ with_bits (with_bits bits (united s t)) (vanished s)

-- ---- one turn of the engine

abbrev pub makes_join : Join → Bool
makes_join stop = false
makes_join (joins s t) = true

-- the next join was made, if there is one; then the list of those still there has one number less, the first words stand beside it, and the heads stand
-- for their blocks
pub record Turn (threshold : Float) (made : Bool) (numbers sizes bits there numbers' sizes' bits' there' words' heads' : List ℕ) : Type 0 where
  pub answer : made ≡ makes_join (next_join threshold (there_in numbers sizes bits))
  pub state : state_of numbers' sizes' bits' ≡ follow (next_join threshold (there_in numbers sizes bits)) (state_of numbers sizes bits) (λ m. m)
  pub sound : Sound numbers' sizes' bits'
  pub list : made ≡ true → take (length there - 1) there' ≡ listed numbers'
  pub beside : made ≡ true → FirstWords (listed numbers') words' bits'
  pub heads : made ≡ true → Heads threshold sizes' heads'

-- all joins were made, at most one for each subgroup
pub record Turns (threshold : Float) (numbers sizes bits numbers' sizes' bits' : List ℕ) : Type 0 where
  pub state : state_of numbers' sizes' bits' ≡ merge_steps (length numbers) threshold (state_of numbers sizes bits)
  pub sound : Sound numbers' sizes' bits'

-- the tables of a merge that is done
pub record Final (k : ℕ) (m : Merging) (numbers sizes bits : List ℕ) : Type 0 where
  pub final_numbers : numbers ≡ m.finals
  pub final_sizes : sizes ≡ final_sizes k m
  pub final_bits : bits ≡ final_bits k m
