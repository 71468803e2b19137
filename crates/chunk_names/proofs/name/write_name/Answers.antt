-- `chunk_names::name::write_name` meets its contract: an entries-aware chunk has the name of its own, any other its group's.
use Rattle.name_tables.specs.Names.{names_of}
use Rattle.chunk_names.proofs.Appending.{appended_as}
use Rattle.chunk_names.proofs.NameKinds.{aware_name, bare_name}
use Rattle.chunk_names.proofs.name.write_name.Goals as goal

pub returns-then-entries_aware : goal.returns-then-entries_aware
returns-then-entries_aware c =
    let a = c.args in
    let names = names_of a.e a.entry_names.now a.entry_offsets.now in
    appended_as (aware_name a.group.now a.bits names a.entries_aware a.hash.now c.if-entries_aware.true) c.write_entries_aware_name.ensures

pub returns : goal.returns
returns c =
    let a = c.args in
    let names = names_of a.e a.entry_names.now a.entry_offsets.now in
    appended_as (bare_name a.group.now a.bits names a.entries_aware a.hash.now c.if-entries_aware.false) c.append.ensures
