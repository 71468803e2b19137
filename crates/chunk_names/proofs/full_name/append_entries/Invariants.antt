-- `chunk_names::full_name::append_entries` meets its contract. The invariant: what stands behind the first bytes is what the first entries add.
use Prim.Native.Nat.{◌≤◌}
use Rattle.name_tables.specs.Names.{names_of}
use Rattle.chunk_names.specs.Append.{Appended}
use Rattle.chunk_names.proofs.EntryParts.{added_to}
use Rattle.chunk_names.proofs.full_name.append_entries.Given as goal

abbrev pub invariant-loop-entry : goal.invariant-loop-entry
invariant-loop-entry l =
    (l.entry ≤ l.e) × Appended l.initial.area l.from (added_to l.bits (names_of l.e l.entry_names l.entry_offsets) l.entry) l.at l.area
