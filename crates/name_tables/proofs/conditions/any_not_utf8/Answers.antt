-- `name_tables::conditions::any_not_utf8` meets its contract. The invariant: the test of the names from k on gives what the whole test gives.
use mathlib.Core.Path.{refl, sym, ap, ◌∙◌}
use Rattle.utf8.specs.Utf8.{utf8}
use Rattle.name_tables.proofs.NamesFrom.{name_in_table, all_utf8, one_name}
use Rattle.name_tables.proofs.conditions.any_not_utf8.Goals as goal

pub loop-k-init : goal.loop-k-init
loop-k-init c = refl

pub name_at-requires : goal.name_at-requires
name_at-requires c =
    let a = c.args in
    name_in_table a.count a.bytes.now a.offsets.now c.requires c.loop-k.k c.loop-k-test.true

pub returns-then-not-is_utf8 : goal.returns-then-not-is_utf8
returns-then-not-is_utf8 c =
    let a = c.args in
    let s = c.loop-k in
    let bad = ap utf8 (sym c.name_at.ensures) ∙ sym c.is_utf8.ensures ∙ c.if-not-is_utf8.true in
    sym (one_name a.count a.bytes.now a.offsets.now _ s.k c.loop-k-test.true bad) ∙ s.invariant

pub loop-k-preserved : goal.loop-k-preserved
loop-k-preserved c =
    let a = c.args in
    let s = c.loop-k in
    let good = ap utf8 (sym c.name_at.ensures) ∙ sym c.is_utf8.ensures ∙ c.if-not-is_utf8.false in
    sym (one_name a.count a.bytes.now a.offsets.now _ s.k c.loop-k-test.true good) ∙ s.invariant

pub returns : goal.returns
returns c =
    let a = c.args in
    let s = c.loop-k in
    sym (all_utf8 a.count a.bytes.now a.offsets.now s.k c.loop-k-test.false) ∙ s.invariant
