-- `chunk_names::full_name::append_entry_name` meets its contract: an empty name adds nothing, any other a separator and itself.
use mathlib.Core.Path.{sym}
use Rattle.chunk_names.proofs.Appending.{appended_none, appended_both, appended_as, mid_within}
use Rattle.chunk_names.proofs.EntryParts.{separated_none, separated_some}
use Rattle.chunk_names.proofs.full_name.append_entry_name.Goals as goal

pub returns-then-name-eq0 : goal.returns-then-name-eq0
returns-then-name-eq0 c =
    let a = c.args in
    appended_as (sym (separated_none a.name.now c.if-name-eq0.true)) (appended_none a.area.now a.at)

pub append-requires : goal.append-requires
append-requires c = mid_within c.requires c.append-behind.ensures

pub returns : goal.returns
returns c =
    let a = c.args in
    appended_as (sym (separated_some a.name.now c.if-name-eq0.false)) (appended_both c.requires c.append-behind.ensures c.append.ensures)
