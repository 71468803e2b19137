-- No row before k has an entry that far: the loop's invariant.
use mathlib.Core.Path.{sym, ap, ◌∙◌}
use native.Mathlib.Omega.{arith}
use Rattle.bitset.specs.Entries.{beyond}
use Rattle.bitset.proofs.Beyond.{rows_none, rows_more, rows_some}
use Rattle.bitset.proofs.table.any_bit_from.Goals as goal

pub loop-k-init : goal.loop-k-init
loop-k-init c = rows_none c.args.entries c.args.table.now

pub returns-then-has_bit_from : goal.returns-then-has_bit_from
returns-then-has_bit_from c =
    let s = c.args in
    let far = sym c.has_bit_from.ensures ∙ c.if-has_bit_from.true in
    sym (rows_some s.entries s.table.now s.n c.loop-k.k (omega arith)
    (ap (beyond s.entries) (sym c.row.ensures) ∙ far))

pub loop-k-preserved : goal.loop-k-preserved
loop-k-preserved c =
    let s = c.args in
    let l = c.loop-k in
    let near = sym c.has_bit_from.ensures ∙ c.if-has_bit_from.false in
    rows_more s.entries s.table.now l.k l.invariant (ap (beyond s.entries) (sym c.row.ensures) ∙ near)
