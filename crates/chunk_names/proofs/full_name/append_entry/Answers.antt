-- `chunk_names::full_name::append_entry` meets its contract: an entry whose bit the chunk has adds its name, any other nothing.
use mathlib.Core.Path.{sym, ap, ◌∙◌}
use native.Mathlib.Omega.{arith}
use Rattle.name_tables.specs.Names.{names_of}
use Rattle.name_tables.proofs.NamesFrom.{name_in_table}
use Rattle.ids.proofs.IdParts.{ids_at}
use Rattle.chunk_names.specs.Name.{separated}
use Rattle.chunk_names.proofs.Appending.{appended_none, appended_as}
use Rattle.chunk_names.proofs.EntryParts.{added_with, added_without}
use Rattle.chunk_names.proofs.full_name.append_entry.Goals as goal

pub has_bit-requires : goal.has_bit-requires
has_bit-requires c =
    let p = c.requires in
    omega (arith, p.1, p.2.few)

pub name_at-requires : goal.name_at-requires
name_at-requires c =
    let a = c.args in
    name_in_table a.e a.entry_names.now a.entry_offsets.now c.requires.2.table a.entry c.requires.1

pub returns-then-has_bit : goal.returns-then-has_bit
returns-then-has_bit c =
    let a = c.args in
    let names = names_of a.e a.entry_names.now a.entry_offsets.now in
    let name = c.name_at.ensures ∙ sym (ids_at a.e a.entry_names.now a.entry_offsets.now a.entry c.requires.1) in
    appended_as (ap separated name ∙ sym (added_with a.bits names a.entry (sym c.has_bit.ensures ∙ c.if-has_bit.true))) c.append_entry_name.ensures

pub returns : goal.returns
returns c =
    let a = c.args in
    let names = names_of a.e a.entry_names.now a.entry_offsets.now in
    appended_as (sym (added_without a.bits names a.entry (sym c.has_bit.ensures ∙ c.if-has_bit.false))) (appended_none a.area.now a.at)
