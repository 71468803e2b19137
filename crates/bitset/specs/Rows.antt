-- A set written to a table of four words a row.
use Rattle.std.specs.Prelude.{ℕ, ◌*◌, List, [], ◌∷◌}
use Rattle.lists.specs.Area.{placed}
use Rattle.bitset.specs.Entries.{word_at}
use Rattle.bitset.specs.declared.entries.BitSet.{BitSet}

-- the four words of a set
abbrev pub words_of : BitSet → List ℕ
words_of s = word_at s 0 ∷ word_at s 1 ∷ word_at s 2 ∷ word_at s 3 ∷ []

-- row i of the table
unfoldable pub with_row : List ℕ → ℕ → BitSet → List ℕ
with_row table i s = placed (4 * i) (words_of s) table
