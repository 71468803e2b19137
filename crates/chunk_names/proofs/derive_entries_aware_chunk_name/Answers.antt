-- The public call meets its contract. Each refusal is the first test that applies; where none does, the name is written.
use Rattle.std.proofs.lemmas.Result.{err_from_is_err_and}
use Rattle.name_tables.proofs.NamesFrom.{name_in_table}
use Rattle.chunk_names.proofs.Appending.{appended_as}
use Rattle.chunk_names.proofs.TableTests.{passed as tables_passed}
use Rattle.chunk_names.proofs.ChunkTests.{passed as chunk-passed}
use Rattle.chunk_names.proofs.Naming.{refuses_tables, refuses_chunk, names, same_name}
use Rattle.chunk_names.proofs.derive_entries_aware_chunk_name.Goals as goal

pub returns-in_err-table_number : goal.returns-in_err-table_number
returns-in_err-table_number c =
    let p = err_from_is_err_and c.from_residual.result c.from_residual.ensures.1 in
    rw (p.1, p.2) (refuses_tables _ _ _ c.in_err-table_number.ensures)

pub chunk_number-requires : goal.chunk_number-requires
chunk_number-requires c =
    let t = tables_passed _ c.in_ok-table_number.ensures in
    (t.groups, t.entries.table)

pub returns-in_err-chunk_number : goal.returns-in_err-chunk_number
returns-in_err-chunk_number c =
    let r = c.from_residual-in_err-chunk_number in
    let p = err_from_is_err_and r.result r.ensures.1 in
    rw (p.1, p.2) (refuses_chunk _ _ c.in_ok-table_number.ensures _ c.in_err-chunk_number.ensures)

pub name_at-group-requires : goal.name_at-group-requires
name_at-group-requires c =
    let a = c.args in
    let p = chunk-passed _ _ _ _ c.in_ok-chunk_number.ensures in
    name_in_table a.k a.group_names.now a.group_offsets.now (tables_passed _ c.in_ok-table_number.ensures).groups a.number p.roomy.known

pub write_name-requires : goal.write_name-requires
write_name-requires c = (tables_passed _ c.in_ok-table_number.ensures).entries

pub returns : goal.returns
returns c = names _ _ c.in_ok-table_number.ensures c.in_ok-chunk_number.ensures _ _ (appended_as (same_name _ c.name_at-group.ensures) c.write_name.ensures)
