-- Chunk names (`derive_entries_aware_chunk_name`), as the first note of document 02 has them.
use Rattle.std.specs.Prelude.{ℕ, Bool, true, false, cond, ltb, length, get_or, take}
use mathlib.Core.List.{List, [], ◌∷◌, ◌++◌, flat_map}
use Rattle.lists.specs.Range.{range}
use Rattle.bitset.specs.Entries.{has_bit}
use Rattle.bitset.specs.declared.entries.BitSet.{BitSet}
use Rattle.utf8.specs.Start.{start_back}

-- the byte "~"
abbrev pub separator : ℕ
separator = 126

-- the longest name of an entries-aware chunk
abbrev pub max_chunk_name_len : ℕ
max_chunk_name_len = 100

-- the bytes of a hash that a name shows
abbrev pub hash_display_len : ℕ
hash_display_len = 8

-- where a longer full name is cut: what is left has room for a separator and the hash
abbrev pub truncated_len : ℕ
truncated_len = 91

-- "a "~" and that entry's name"; an empty name is passed over
unfoldable pub separated : List ℕ → List ℕ
separated [] = []
separated (b ∷ name) = separator ∷ b ∷ name

-- what one entry adds if the chunk has its bit; an entry at or above E has no name
unfoldable pub added : BitSet → List (List ℕ) → ℕ → List ℕ
unfolding has_bit separated
added bits names entry = cond (has_bit bits entry) (separated (get_or names entry [])) []

-- "for each entry bit in ascending order" what it adds
unfoldable pub entry_parts : BitSet → List (List ℕ) → List ℕ
unfolding added flat_map range
entry_parts bits names = flat_map (added bits names) (range 0 256)

-- "The full name is the group name, then" the parts of its entries
unfoldable pub full_name : List ℕ → BitSet → List (List ℕ) → List ℕ
unfolding entry_parts
full_name group bits names = group ++ entry_parts bits names

-- "cut at byte 91, or further back to the start of a UTF-8 character, then "~" and eight hash bytes of it"
unfoldable pub shortened : List ℕ → List ℕ → List ℕ
unfolding start_back
shortened full hash = take (start_back full truncated_len) full ++ (separator ∷ hash)

-- "A full name above 100 bytes is cut"
unfoldable pub entries_aware_name : List ℕ → List ℕ → List ℕ
unfolding shortened
entries_aware_name full hash = cond (ltb max_chunk_name_len (length full)) (shortened full hash) full

-- the name of a chunk: "Other chunks keep the bare group name at any length."
unfoldable pub name_of : Bool → List ℕ → BitSet → List (List ℕ) → List ℕ → List ℕ
unfolding full_name entries_aware_name
name_of true group bits names hash = entries_aware_name (full_name group bits names) hash
name_of false group bits names hash = group
