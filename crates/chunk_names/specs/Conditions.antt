-- The conditions that a name call tests.
use Rattle.std.specs.Prelude.{ℕ, ◌+◌, Bool, false, ◌||◌, List, [], ◌∷◌, ltb, leb, length}
use Rattle.refusal.specs.Outcome.{Test, test}
use Rattle.refusal.specs.Counts.{name_limit, entry_limit, bad_length}
use Rattle.ids.specs.Offsets.{bad_offsets}
use Rattle.ids.specs.Parts.{id_at, ids_of}
use Rattle.name_tables.specs.Names.{bad_names}
use Rattle.name_tables.specs.Conditions.{any_not_utf8, unordered}
use Rattle.chunk_names.specs.Name.{max_chunk_name_len, hash_display_len}
use Rattle.chunk_names.specs.Given.{Names, group_names, entry_names, group_name}

-- 1: a count above its limit
abbrev pub bad_counts : ℕ → ℕ → Bool
bad_counts k e = ltb name_limit k || ltb entry_limit e

-- 2: K+1 and E+1 offsets
abbrev pub bad_lengths : Names → Bool
bad_lengths t = bad_length t.group_offsets (t.k + 1) || bad_length t.entry_offsets (t.e + 1)

-- 3: "name offsets, no length limit", of both tables
abbrev pub bad_tables : Names → Bool
bad_tables t = bad_names t.group_names t.group_offsets || bad_names t.entry_names t.entry_offsets

-- 12: "a name area shorter than 100 bytes or than the group name"; room is the length of the area
abbrev pub short_area : List ℕ → ℕ → Bool
short_area group room = ltb room max_chunk_name_len || ltb room (length group)

-- 14: "a name handed in isn't UTF-8", used or not
abbrev pub not_utf8 : Names → Bool
not_utf8 t = any_not_utf8 (group_names t) || any_not_utf8 (entry_names t)

-- a byte of 128 or more
unfoldable pub any_high : List ℕ → Bool
any_high [] = false
any_high (b ∷ l) = leb 128 b || any_high l

-- 16: "the hash isn't eight bytes below 128", used or not
abbrev pub bad_hash : List ℕ → Bool
bad_hash hash = bad_length hash hash_display_len || any_high hash

-- the conditions on the tables of names
unfoldable pub table_tests : Names → List Test
unfolding bad_offsets
table_tests t = test 1 (bad_counts t.k t.e) ∷ test 2 (bad_lengths t) ∷ test 3 (bad_tables t) ∷ []

-- those on the rest that a call is handed, on its area, and on the names as text
unfoldable pub chunk_tests : Names → ℕ → List ℕ → ℕ → List Test
unfolding id_at ids_of any_not_utf8 unordered any_high
chunk_tests t number hash room =
    test 10 (leb t.k number)
    ∷ test 12 (short_area (group_name t number) room)
    ∷ test 14 (not_utf8 t)
    ∷ test 15 (unordered (group_names t))
    ∷ test 16 (bad_hash hash)
    ∷ []
