-- What a search keeps of a subgroup, and what it reads.
use Rattle.std.specs.Prelude.{ℕ, ◌+◌, ◌*◌, ◌^◌, ◌<◌, ◌≤◌, Bool, true, false, ◌&&◌, cond, List, ltb, Float, length, get_or}
use Rattle.std.specs.Int.Bits.{bit_xor}
use Rattle.std.specs.Int.Count.{ones}
use Rattle.std.specs.Float.Ieee.{lt}
use Rattle.whole.specs.Double.{to_f64}
use Rattle.bitset.specs.Entries.{row_of, differing}
use Rattle.bitset.specs.declared.entries.BitSet.{BitSet}
use Rattle.joins.specs.declared.candidate.Candidate.{Candidate}

-- "0 < size < threshold"
unfoldable pub seeking : Float → Candidate → Bool
unfolding lt
seeking threshold a = lt (to_f64 0) a.size && lt a.size threshold

-- "the fewest entries …, then smallest size, then lowest number"; where a seeker is looked for all distances are 0
unfoldable pub comes_first : Candidate → Candidate → Bool
unfolding lt
comes_first a b =
    cond (ltb a.distance b.distance) true
    (cond (ltb b.distance a.distance) false
    (cond (lt a.size b.size) true (cond (lt b.size a.size) false (ltb a.number b.number))))

-- number i where a seeker is looked for, and where the target of a seeker with the entries `wanted` is
unfoldable pub seeker_at : List ℕ → ℕ → Candidate
seeker_at sizes i = record { number = i; size = to_f64 (get_or sizes i 0); distance = 0 }

unfoldable pub target_at : List ℕ → List ℕ → BitSet → ℕ → Candidate
unfolding differing row_of
target_at sizes bits wanted i = record { number = i; size = to_f64 (get_or sizes i 0); distance = differing wanted (row_of bits i) }

-- how many entries exactly one of two words has
abbrev pub ones_apart : ℕ → ℕ → ℕ
ones_apart a b = ones (bit_xor a b)

-- ---- what a search reads

-- row i has a size of at most 2^53 and four words
pub record Row (sizes bits : List ℕ) (i : ℕ) : Type 0 where
  pub has_size : i < length sizes
  pub has_bits : 4 * i + 4 ≤ length bits
  pub exact : get_or sizes i 0 ≤ 2 ^ 53

-- each size is a double
abbrev pub Exact : List ℕ → Type 0
Exact sizes = (i : ℕ) → i < length sizes → get_or sizes i 0 ≤ 2 ^ 53
