-- The chains along which the kind of some bits is looked for. What is found follows from the bits alone: a search ensures the same with any
-- buckets.
use Rattle.std.specs.Prelude.{◌≡◌, ℕ, suc, ◌+◌, ◌%◌, ◌^◌, ◌<◌, ◌≤◌, false, List, length, ◌≢◌, slice_index, slice_set}
use Rattle.bitset.specs.Entries.{word_at, row_of}
use Rattle.bitset.specs.declared.entries.BitSet.{BitSet}
use Rattle.grouping.specs.Subgroups.{same_bits}

-- how many buckets there are
abbrev pub bucket_count : ℕ
bucket_count = 2039

-- a sum in 64 bits
abbrev pub wrapped : ℕ → ℕ → ℕ
wrapped a b = (a + b) % 2 ^ 64

-- five times the words so far and one more
abbrev pub mixed_with : ℕ → ℕ → ℕ
mixed_with mixed word = wrapped (wrapped (wrapped (wrapped mixed mixed) (wrapped mixed mixed)) mixed) word

-- the bucket of a set: the remainder of its mixed words by a prime
unfoldable pub bucket_of : BitSet → ℕ
bucket_of s = mixed_with (mixed_with (mixed_with (word_at s 3) (word_at s 2)) (word_at s 1)) (word_at s 0) % 2039

-- the bucket of kind i
abbrev pub bucket_at : List ℕ → ℕ → ℕ
bucket_at kind-bits i = bucket_of (row_of kind-bits i)

-- v is the last number below n whose bucket is b, plus 1, or 0 where there is none; f gives the bucket of each number
pub record LastIn (f : ℕ → ℕ) (n b v : ℕ) : Type 0 where
  pub within : v ≤ n
  pub its : (k : ℕ) → v ≡ suc k → f k ≡ b
  pub none_after : (j : ℕ) → v ≤ j → j < n → f j ≢ b

-- The kinds so far are different. The head of each bucket is the last kind in it, and each kind leads to the one before it in its bucket.
pub record Chained (kind-bits : List ℕ) (count : ℕ) (heads chain : List ℕ) : Type 0 where
  pub apart : (i j : ℕ) → i < j → j < count → same_bits (row_of kind-bits i) (row_of kind-bits j) ≡ false
  pub heads_are : (b : ℕ) → b < bucket_count → LastIn (bucket_at kind-bits) count b (slice_index heads b)
  pub links : (k : ℕ) → k < count → LastIn (bucket_at kind-bits) k (bucket_at kind-bits k) (slice_index chain k)

-- a head for each bucket, and room for a link of each kind
pub record ChainRoom (n : ℕ) (heads chain : List ℕ) : Type 0 where
  pub heads_fit : length heads ≡ bucket_count
  pub chain_room : n ≤ length chain

-- kind `count` was put first in the bucket b
pub record Pushed (b count : ℕ) (heads chain heads' chain' : List ℕ) : Type 0 where
  pub new_head : heads' ≡ slice_set heads b (count + 1)
  pub new_link : chain' ≡ slice_set chain count (slice_index heads b)
