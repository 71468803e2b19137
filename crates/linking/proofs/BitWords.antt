-- The words of the entry bits of chunks: four for each, one chunk after the other.
use Prim.Native.Nat.{◌*◌}
use mathlib.Core.List.{List, ◌++◌, Memᴰ}
use mathlib.Core.Path.{◌≡◌}
use lib.ListN.{length}
use Rattle.bitset.proofs.Rows as rows
use Rattle.grouping.specs.ChunkList.{Chunk}
use Rattle.grouping.specs.Written.{bit_words}

pub words_count : (chunks : List Chunk) → ((c : Chunk) → Memᴰ c chunks → length c.bits.words ≡ 4)
    → length (bit_words chunks) ≡ 4 * length chunks
unfolding bit_words
words_count = rows.words_count (λ c. c.bits.words)

pub words_append : (some new : List Chunk) → bit_words (some ++ new) ≡ bit_words some ++ bit_words new
unfolding bit_words
words_append = rows.words_append (λ c. c.bits.words)
