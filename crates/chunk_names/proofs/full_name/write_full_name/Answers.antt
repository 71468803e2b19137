-- `chunk_names::full_name::write_full_name` meets its contract: the group's name, and behind it the parts of the entries.
use native.Mathlib.Omega.{arith}
use Rattle.name_tables.specs.Names.{names_of}
use Rattle.chunk_names.proofs.Appending.{appended_both, appended_as, mid_within}
use Rattle.chunk_names.proofs.NameKinds.{full_name_lem}
use Rattle.chunk_names.proofs.full_name.write_full_name.Goals as goal

pub append_entries-requires : goal.append_entries-requires
append_entries-requires c = (mid_within (omega arith) c.append-behind.ensures, c.requires)

pub returns : goal.returns
returns c =
    let a = c.args in
    let names = names_of a.e a.entry_names.now a.entry_offsets.now in
    appended_as (full_name_lem a.group.now a.bits names) (appended_both (omega arith) c.append-behind.ensures c.append_entries.ensures)
