-- A table of names: bytes, and one offset more than there are names. A name is a part of the bytes, as an id is.
use Rattle.std.specs.Prelude.{ℕ, ◌+◌, Bool, false, List, ◌≡◌, length}
use Rattle.ids.specs.Parts.{id_at, ids_of}
use Rattle.ids.specs.Offsets.{bad_offsets}

-- name k of a table
abbrev pub name_at : List ℕ → List ℕ → ℕ → List ℕ
name_at bytes offsets k = id_at bytes offsets k

-- the names of a table, in their order
abbrev pub names_of : ℕ → List ℕ → List ℕ → List (List ℕ)
names_of count bytes offsets = ids_of count bytes offsets

-- "3 (name offsets, no length limit)": within the bytes no name can exceed their number
abbrev pub bad_names : List ℕ → List ℕ → Bool
bad_names bytes offsets = bad_offsets (length bytes) (length bytes) offsets

-- a table that passes 2 and 3
pub record NameTable (count : ℕ) (bytes offsets : List ℕ) : Type 0 where
  pub all_offsets : length offsets ≡ count + 1
  pub good : bad_names bytes offsets ≡ false
