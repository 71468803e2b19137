-- The table of entry names, as the code that writes a name is handed it.
use Rattle.std.specs.Prelude.{ℕ, ◌≤◌, List}
use Rattle.refusal.specs.Counts.{entry_limit}
use Rattle.name_tables.specs.Names.{NameTable}

-- a table of entry names that passes 1, 2 and 3
pub record EntryTable (e : ℕ) (bytes offsets : List ℕ) : Type 0 where
  pub few : e ≤ entry_limit
  pub table : NameTable e bytes offsets
