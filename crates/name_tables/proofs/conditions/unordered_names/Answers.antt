-- `name_tables::conditions::unordered_names` meets its contract. The invariant: the test of the names from k - 1 on gives what the whole test gives.
use Prim.Native.Nat.{◌-◌}
use mathlib.Core.Bool.{true}
use mathlib.Core.Path.{◌≡◌, refl, sym, ap₂, ◌∙◌}
use native.Mathlib.Omega.{arith}
use Rattle.ids.specs.Order.{before}
use Rattle.name_tables.proofs.NamesFrom.{name_in_table, all_ordered, pair_before}
use Rattle.name_tables.proofs.conditions.unordered_names.Goals as goal

pub loop-k-init : goal.loop-k-init
loop-k-init c = refl

pub name_at-name-requires : goal.name_at-name-requires
name_at-name-requires c =
    let a = c.args in
    name_in_table a.count a.bytes.now a.offsets.now c.requires (c.loop-k.k - 1) (omega arith)

pub name_at-requires : goal.name_at-requires
name_at-requires c =
    let a = c.args in
    name_in_table a.count a.bytes.now a.offsets.now c.requires c.loop-k.k (omega arith)

pub returns-then-not-id_before : goal.returns-then-not-id_before
returns-then-not-id_before c =
    let a = c.args in
    let s = c.loop-k in
    let bad = ap₂ before (sym c.name_at-name.ensures) (sym c.name_at.ensures) ∙ sym c.id_before.ensures ∙ c.if-not-id_before.true in
    sym (pair_before a.count a.bytes.now a.offsets.now _ s.k (omega arith) (omega arith) bad) ∙ s.invariant

pub loop-k-preserved : goal.loop-k-preserved
loop-k-preserved c =
    let a = c.args in
    let s = c.loop-k in
    let told : c.id_before.result ≡ true = cc in
    let good = ap₂ before (sym c.name_at-name.ensures) (sym c.name_at.ensures) ∙ sym c.id_before.ensures ∙ told in
    sym (pair_before a.count a.bytes.now a.offsets.now _ s.k (omega arith) (omega arith) good) ∙ s.invariant

pub returns : goal.returns
returns c =
    let a = c.args in
    let s = c.loop-k in
    sym (all_ordered a.count a.bytes.now a.offsets.now (s.k - 1) (omega arith)) ∙ s.invariant
