-- `chunk_names::full_name::append_entries` meets its contract. The invariant: what stands behind the first bytes is what the first entries add.
use mathlib.Core.Path.{◌≡◌, sym, ap, ◌∙◌}
use native.Mathlib.Omega.{arith}
use lib.ListN.{length}
use Rattle.name_tables.specs.Names.{names_of}
use Rattle.ids.proofs.IdParts.{ids_length}
use Rattle.chunk_names.proofs.Appending.{appended_none, appended_both, appended_as, same_room, mid_within}
use Rattle.chunk_names.proofs.EntryParts.{added_to, added_none, added_more, added_all}
use Rattle.chunk_names.proofs.full_name.append_entries.Goals as goal

pub loop-entry-init : goal.loop-entry-init
loop-entry-init c =
    let a = c.args in
    let names = names_of a.e a.entry_names.now a.entry_offsets.now in
    (omega arith, appended_as (sym (added_none a.bits names)) (appended_none a.area.now a.from))

pub append_entry-at-requires : goal.append_entry-at-requires
append_entry-at-requires c = (mid_within c.requires.0 c.loop-entry.invariant.1, c.loop-entry-test.true, c.requires.1)

pub loop-entry-preserved : goal.loop-entry-preserved
loop-entry-preserved c =
    let a = c.args in
    let names = names_of a.e a.entry_names.now a.entry_offsets.now in
    (omega arith, appended_as (sym (added_more a.bits names c.loop-entry.entry)) (appended_both c.requires.0 c.loop-entry.invariant.1 c.append_entry-at.ensures))

pub shape_of-area : goal.shape_of-area
shape_of-area c = same_room c.requires.0 c.loop-entry.invariant.1

pub returns : goal.returns
returns c =
    let a = c.args in
    let names = names_of a.e a.entry_names.now a.entry_offsets.now in
    let s = c.loop-entry in
    let count = ids_length a.e a.entry_names.now a.entry_offsets.now in
    let last : s.entry ≡ length names = omega (arith, count, s.invariant.0, c.loop-entry-test.false) in
    let all = ap (added_to a.bits names) last ∙ added_all a.bits names (omega (arith, count, c.requires.1.few)) in
    appended_as all s.invariant.1
