-- `chunk_names::conditions::chunk_number` meets its contract: each return is one step of the row of tests.
use Prim.Native.Nat.{◌≤◌, ◌<◌}
use mathlib.Core.Path.{sym, subst, ◌∙◌}
use native.Mathlib.Omega.{arith}
use lib.ListN.{length}
use Rattle.name_tables.proofs.NamesFrom.{name_in_table}
use Rattle.chunk_names.proofs.ChunkTests.{unknown, area_short, group_long, groups_not_text, entries_not_text, not_ascending, hash_bad, none_bad}
use Rattle.chunk_names.proofs.conditions.chunk_number.Goals as goal

pub returns-then-k-number : goal.returns-then-k-number
returns-then-k-number c = unknown _ _ _ _ c.if-k-number.true

pub returns-then-room-lt-MAX_CHUNK_NAME_LEN : goal.returns-then-room-lt-MAX_CHUNK_NAME_LEN
returns-then-room-lt-MAX_CHUNK_NAME_LEN c = area_short _ _ _ _ c.if-k-number.false c.if-room-lt-MAX_CHUNK_NAME_LEN.true

pub name_at-requires : goal.name_at-requires
name_at-requires c =
    let a = c.args in
    name_in_table a.k a.group_names.now a.group_offsets.now c.requires.0 a.number c.if-k-number.false

pub returns-then-room-name_at : goal.returns-then-room-name_at
returns-then-room-name_at c = group_long _ _ _ _ c.if-k-number.false (subst (λ l. c.args.room < length l) c.name_at.ensures c.if-room-name_at.true)

pub any_not_utf8-requires : goal.any_not_utf8-requires
any_not_utf8-requires c = c.requires.0

pub returns-then-any_not_utf8 : goal.returns-then-any_not_utf8
returns-then-any_not_utf8 c = groups_not_text _ _ _ _ (record { known = c.if-k-number.false; enough = omega arith; holds_group = subst (λ l. length l ≤ c.args.room) c.name_at.ensures c.if-room-name_at.false }) (sym c.any_not_utf8.ensures ∙ c.if-any_not_utf8.true)

pub any_not_utf8-requires-2 : goal.any_not_utf8-requires-2
any_not_utf8-requires-2 c = c.requires.1

pub returns-then-any_not_utf8-2 : goal.returns-then-any_not_utf8-2
returns-then-any_not_utf8-2 c = entries_not_text _ _ _ _ (record { known = c.if-k-number.false; enough = omega arith; holds_group = subst (λ l. length l ≤ c.args.room) c.name_at.ensures c.if-room-name_at.false }) (sym c.any_not_utf8-2.ensures ∙ c.if-any_not_utf8-2.true)

pub unordered_names-requires : goal.unordered_names-requires
unordered_names-requires c = c.requires.0

pub returns-then-unordered_names : goal.returns-then-unordered_names
returns-then-unordered_names c = not_ascending _ _ _ _ (record { known = c.if-k-number.false; enough = omega arith; holds_group = subst (λ l. length l ≤ c.args.room) c.name_at.ensures c.if-room-name_at.false }) (sym c.any_not_utf8.ensures ∙ c.if-any_not_utf8.false) (sym c.any_not_utf8-2.ensures ∙ c.if-any_not_utf8-2.false) (sym c.unordered_names.ensures ∙ c.if-unordered_names.true)

pub returns-then-bad_hash : goal.returns-then-bad_hash
returns-then-bad_hash c = hash_bad _ _ _ _ (record { known = c.if-k-number.false; enough = omega arith; holds_group = subst (λ l. length l ≤ c.args.room) c.name_at.ensures c.if-room-name_at.false }) (sym c.any_not_utf8.ensures ∙ c.if-any_not_utf8.false) (sym c.any_not_utf8-2.ensures ∙ c.if-any_not_utf8-2.false) (sym c.unordered_names.ensures ∙ c.if-unordered_names.false) (sym c.bad_hash.ensures ∙ c.if-bad_hash.true)

pub returns : goal.returns
returns c = none_bad _ _ _ _ (record { known = c.if-k-number.false; enough = omega arith; holds_group = subst (λ l. length l ≤ c.args.room) c.name_at.ensures c.if-room-name_at.false }) (sym c.any_not_utf8.ensures ∙ c.if-any_not_utf8.false) (sym c.any_not_utf8-2.ensures ∙ c.if-any_not_utf8-2.false) (sym c.unordered_names.ensures ∙ c.if-unordered_names.false) (sym c.bad_hash.ensures ∙ c.if-bad_hash.false)
