-- The kinds of entry bits among the modules of a set. A kind's bits stand in a row of a table.
use Rattle.std.specs.Prelude.{ℕ, Bool, false, ◌||◌, List, [], ◌∷◌, map, length, slice_index}
use Rattle.lists.specs.Keep.{keep}
use Rattle.lists.specs.Range.{range}
use Rattle.lists.specs.Sum.{sum}
use Rattle.bitset.specs.Entries.{row_of}
use Rattle.bitset.specs.declared.entries.BitSet.{BitSet}
use Rattle.grouping.specs.Subgroups.{same_bits, kinds_of, kind_number}

-- the first k rows of a table
unfoldable pub rows_of : List ℕ → ℕ → List BitSet
unfolding row_of range
rows_of table k = map (row_of table) (range 0 k)

-- one of the kinds has these bits
unfoldable pub has_kind : List BitSet → BitSet → Bool
unfolding same_bits
has_kind [] x = false
has_kind (kind ∷ kinds) x = same_bits kind x || has_kind kinds x

-- the kinds of a set, "by first appearance in execution order"
abbrev pub kinds_in : List ℕ → List ℕ → List BitSet
kinds_in bits set = kinds_of (length set) (map (row_of bits) set)

-- the number of a module's kind
abbrev pub kind_of_module : List ℕ → List BitSet → ℕ → ℕ
kind_of_module bits kinds m = kind_number 0 kinds (row_of bits m)

-- the sizes of modules, in their order
abbrev pub sizes_of : List ℕ → List ℕ → List ℕ
sizes_of sizes set = map (λ m. slice_index sizes m) set

-- the size of a kind: that of the modules of the set that have its bits
unfoldable pub size_of_kind : List ℕ → List ℕ → List ℕ → BitSet → ℕ
unfolding keep sum row_of same_bits
size_of_kind bits sizes set kind = sum (sizes_of sizes (keep (λ m. same_bits kind (row_of bits m)) set))
