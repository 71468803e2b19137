-- The search for a join: the best so far, and one more that is looked at.
use Rattle.std.specs.Prelude.{ℕ, ◌*◌, ◌^◌, ◌<◌, ◌≤◌, Bool, true, false, cond, List, ◌≡◌, length, get_or}
use Rattle.std.specs.Prelude as std
use Rattle.std.proofs.Math.Option.{Option, none, some}
use Rattle.lists.specs.Least.{earlier}
use Rattle.bitset.specs.declared.entries.BitSet.{BitSet}
use Rattle.joins.specs.Candidate.{comes_first, target_at}
use Rattle.joins.specs.declared.candidate.Candidate.{Candidate}
use Rattle.seeking.specs.Listed.{FirstWords}

-- what a search has found, as an option of the definitions
abbrev pub found_of : std.Option Candidate → Option Candidate
found_of std.None = none
found_of (std.Some best) = some best

-- one more takes its place
unfoldable pub gives_way : std.Option Candidate → Candidate → Bool
unfolding comes_first
gives_way std.None x = true
gives_way (std.Some best) x = comes_first x best

-- The best so far, and one more: passed over unless it is among those that are looked for.
unfoldable pub looked : {A : Type 0} → (A → A → Bool) → Bool → Option A → A → Option A
looked before false best x = best
looked before true none x = some x
looked before true (some best) x = some (earlier before best x)

-- each number of a list has a size of at most 2^53
pub record Readable (there sizes : List ℕ) : Type 0 where
  pub inside : (i : ℕ) → i < length there → get_or there i 0 < length sizes
  pub exact : (i : ℕ) → i < length sizes → get_or sizes i 0 ≤ 2 ^ 53

-- what a search for a target reads: sizes, rows of four words, and beside the list the first words
pub record Searchable (there words sizes bits : List ℕ) : Type 0 where
  pub readable : Readable there sizes
  pub rows : 4 * length sizes ≤ length bits
  pub first : FirstWords there words bits

-- number i as a target of a seeker with the entries `wanted` comes before a candidate
abbrev pub nearer_than : List ℕ → List ℕ → BitSet → ℕ → Candidate → Bool
nearer_than sizes bits wanted i best = comes_first (target_at sizes bits wanted i) best

-- a candidate is one of the numbers of a list
pub record OfList (there sizes bits : List ℕ) (wanted : BitSet) (best : Candidate) : Type 0 where
  pub place : ℕ
  pub inside : place < length there
  pub is : best ≡ target_at sizes bits wanted (get_or there place 0)

-- r is the best so far, or one of the list that comes before it, once the places from `from` up to `end` were looked at: none of them comes before r
pub record Nearer (there sizes bits : List ℕ) (wanted : BitSet) (best r : Candidate) (from end : ℕ) : Type 0 where
  pub of_list : OfList there sizes bits wanted r
  pub not_after : (i : ℕ) → nearer_than sizes bits wanted i best ≡ false → nearer_than sizes bits wanted i r ≡ false
  pub none_before : (k : ℕ) → from ≤ k → k < end → nearer_than sizes bits wanted (get_or there k 0) r ≡ false
