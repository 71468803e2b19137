-- `conditions::ladder::shape_number` meets its contract: the first condition that applies gives the number.
use mathlib.Core.Path.{sym, ◌∙◌}
use Rattle.refusal.proofs.Ladder.{none_applies, applies, passes, number, no_number}
use Rattle.conditions.specs.Ladder.{shape_tests}
use Rattle.conditions.proofs.CountsLeft.{counts_within}
use Rattle.conditions.proofs.ladder.shape_number.Goals as goal

pub returns-then-count_above : goal.returns-then-count_above
unfolding shape_tests
returns-then-count_above c =
    λ b h.
    number (applies (sym (c.count_above.ensures b h.counts) ∙ c.if-count_above.true))

pub bad_table-requires : goal.bad_table-requires
bad_table-requires c =
    let s = c.args in
    counts_within s.n s.g s.e s.k s.d c.count_above.result c.count_above.ensures c.if-count_above.false

pub returns-then-bad_table : goal.returns-then-bad_table
unfolding shape_tests
returns-then-bad_table c =
    λ b h.
    number (passes (sym (c.count_above.ensures b h.counts) ∙ c.if-count_above.false)
    (applies (sym (c.bad_table.ensures b h.lengths) ∙ c.if-bad_table.true)))

pub returns-then-bad_id : goal.returns-then-bad_id
unfolding shape_tests
returns-then-bad_id c =
    λ b h.
    number (passes (sym (c.count_above.ensures b h.counts) ∙ c.if-count_above.false)
    (passes (sym (c.bad_table.ensures b h.lengths) ∙ c.if-bad_table.false)
    (applies (sym (c.bad_id.ensures b h.bytes_end h.id_offsets) ∙ c.if-bad_id.true))))

pub returns : goal.returns
unfolding shape_tests
returns c =
    λ b h.
    no_number (passes (sym (c.count_above.ensures b h.counts) ∙ c.if-count_above.false)
    (passes (sym (c.bad_table.ensures b h.lengths) ∙ c.if-bad_table.false)
    (passes (sym (c.bad_id.ensures b h.bytes_end h.id_offsets) ∙ c.if-bad_id.false) none_applies)))
