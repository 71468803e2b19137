-- "entry bits as four u64 words, entry 0 being the lowest bit of the first word"
use Rattle.std.specs.Prelude.{ℕ, ◌*◌, ◌/◌, ◌%◌, ◌^◌, Bool, ◌&&◌, List, [], ◌∷◌, leb, get_or, set, take, drop}
use Rattle.std.specs.Int.Bits.{bit_or}
use Rattle.std.specs.Float.Ieee.{unlike}
use Rattle.lists.specs.Below.{any_below, count_below}
use Rattle.bitset.specs.Word.{bit}
use Rattle.bitset.specs.declared.entries.BitSet.{BitSet}

-- word w of a set
abbrev pub word_at : BitSet → ℕ → ℕ
word_at s w = get_or s.words w 0

-- whether a set has an entry
unfoldable pub has_bit : BitSet → ℕ → Bool
unfolding bit
has_bit s entry = bit (word_at s (entry / 64)) (entry % 64)

-- no entry
abbrev pub empty : BitSet
empty = record { words = 0 ∷ 0 ∷ 0 ∷ 0 ∷ [] }

-- a set with one entry more
unfoldable pub with_bit : BitSet → ℕ → BitSet
with_bit s entry = record { words = set s.words (entry / 64) (bit_or (word_at s (entry / 64)) (2 ^ (entry % 64))) }

-- "bits unite": word by word
unfoldable pub union_of : BitSet → BitSet → BitSet
union_of a b =
    record {
      words =
          bit_or (word_at a 0) (word_at b 0)
          ∷ bit_or (word_at a 1) (word_at b 1)
          ∷ bit_or (word_at a 2) (word_at b 2)
          ∷ bit_or (word_at a 3) (word_at b 3)
          ∷ [];
    }

-- the entries "held by exactly one of the two"
unfoldable pub differing : BitSet → BitSet → ℕ
unfolding count_below has_bit
differing a b = count_below (λ entry. unlike (has_bit a entry) (has_bit b entry)) 256

-- refusal 9: "an entry bit at or above E"
unfoldable pub beyond : ℕ → BitSet → Bool
unfolding any_below has_bit
beyond entries s = any_below (λ entry. leb entries entry && has_bit s entry) 256

-- the set of row k in a table of four words a row
unfoldable pub row_of : List ℕ → ℕ → BitSet
row_of table k = record { words = take 4 (drop (4 * k) table) }

-- refusal 9 over a table of n rows
unfoldable pub any_beyond : ℕ → List ℕ → ℕ → Bool
unfolding any_below beyond row_of
any_beyond entries table n = any_below (λ k. beyond entries (row_of table k)) n
