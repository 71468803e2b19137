-- `chunk_names::conditions::table_number` meets its contract: each return is one step of the row of tests.
use mathlib.Core.Path.{sym, ◌∙◌}
use Rattle.chunk_names.proofs.TableTests.{too_many_names, too_many_entries, groups_missing, entries_missing, groups_bad, entries_bad, none_bad}
use Rattle.chunk_names.proofs.conditions.table_number.Goals as goal

pub returns-then-k-gt-NAME_LIMIT : goal.returns-then-k-gt-NAME_LIMIT
returns-then-k-gt-NAME_LIMIT c = too_many_names _ c.if-k-gt-NAME_LIMIT.true

pub returns-then-e-gt-ENTRY_LIMIT : goal.returns-then-e-gt-ENTRY_LIMIT
returns-then-e-gt-ENTRY_LIMIT c = too_many_entries _ c.if-e-gt-ENTRY_LIMIT.true

pub returns-then-group_offsets-k : goal.returns-then-group_offsets-k
returns-then-group_offsets-k c = groups_missing _ (record { few_names = c.if-k-gt-NAME_LIMIT.false; few_entries = c.if-e-gt-ENTRY_LIMIT.false }) c.if-group_offsets-k.true

pub returns-then-entry_offsets-e : goal.returns-then-entry_offsets-e
returns-then-entry_offsets-e c = entries_missing _ (record { few_names = c.if-k-gt-NAME_LIMIT.false; few_entries = c.if-e-gt-ENTRY_LIMIT.false }) c.if-entry_offsets-e.true

pub returns-then-bad_offsets : goal.returns-then-bad_offsets
returns-then-bad_offsets c = groups_bad _ (record { counted = record { few_names = c.if-k-gt-NAME_LIMIT.false; few_entries = c.if-e-gt-ENTRY_LIMIT.false }; all_groups_lem = c.if-group_offsets-k.false; all_entries = c.if-entry_offsets-e.false }) (sym c.bad_offsets.ensures ∙ c.if-bad_offsets.true)

pub returns-then-bad_offsets-2 : goal.returns-then-bad_offsets-2
returns-then-bad_offsets-2 c = entries_bad _ (record { counted = record { few_names = c.if-k-gt-NAME_LIMIT.false; few_entries = c.if-e-gt-ENTRY_LIMIT.false }; all_groups_lem = c.if-group_offsets-k.false; all_entries = c.if-entry_offsets-e.false }) (sym c.bad_offsets-2.ensures ∙ c.if-bad_offsets-2.true)

pub returns : goal.returns
returns c = none_bad _ (record { counted = record { few_names = c.if-k-gt-NAME_LIMIT.false; few_entries = c.if-e-gt-ENTRY_LIMIT.false }; all_groups_lem = c.if-group_offsets-k.false; all_entries = c.if-entry_offsets-e.false }) (sym c.bad_offsets.ensures ∙ c.if-bad_offsets.false) (sym c.bad_offsets-2.ensures ∙ c.if-bad_offsets-2.false)
