-- What a name is made from.
use Rattle.std.specs.Prelude.{ℕ, Bool, List}
use Rattle.bitset.specs.declared.entries.BitSet.{BitSet}
use Rattle.ids.specs.Parts.{id_at, ids_of}
use Rattle.name_tables.specs.Names.{name_at, names_of}
use Rattle.chunk_names.specs.Name.{name_of}

-- "The caller lends the group names and the entry names as bytes": K and E, and a table of each
pub record Names : Type 0 where
  pub k : ℕ
  pub e : ℕ
  pub group_names : List ℕ
  pub group_offsets : List ℕ
  pub entry_names : List ℕ
  pub entry_offsets : List ℕ

-- the names, the chunk's name number, whether it is entries-aware, its entry bits, and the host's hash bytes
pub record Given : Type 0 where
  pub names : Names
  pub number : ℕ
  pub entries_aware : Bool
  pub bits : BitSet
  pub hash : List ℕ

abbrev pub group_names : Names → List (List ℕ)
group_names t = names_of t.k t.group_names t.group_offsets

abbrev pub entry_names : Names → List (List ℕ)
entry_names t = names_of t.e t.entry_names t.entry_offsets

-- the group name of a number
abbrev pub group_name : Names → ℕ → List ℕ
group_name t number = name_at t.group_names t.group_offsets number

-- the chunk's name
unfoldable pub chunk_name : Given → List ℕ
unfolding name_of id_at ids_of
chunk_name g = name_of g.entries_aware (group_name g.names g.number) g.bits (entry_names g.names) g.hash
