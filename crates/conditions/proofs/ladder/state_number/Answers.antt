-- `conditions::ladder::state_number` meets its contract: the first condition that applies gives the number.
use mathlib.Core.Path.{sym, ◌∙◌}
use Rattle.refusal.proofs.Ladder.{none_applies, applies, passes, number, no_number}
use Rattle.grouping.specs.Conditions.{state_tests}
use Rattle.conditions.proofs.ladder.state_number.Goals as goal

pub returns-then-bad_entry_count : goal.returns-then-bad_entry_count
unfolding state_tests
returns-then-bad_entry_count c =
    λ b a h.
    number (applies (sym c.bad_entry_count.ensures ∙ c.if-bad_entry_count.true))

pub returns-then-bad_area : goal.returns-then-bad_area
unfolding state_tests
returns-then-bad_area c =
    λ b a h.
    number (passes (sym c.bad_entry_count.ensures ∙ c.if-bad_entry_count.false)
    (applies (sym (c.bad_area.ensures a h.areas) ∙ c.if-bad_area.true)))

pub returns-then-scratch_short : goal.returns-then-scratch_short
unfolding state_tests
returns-then-scratch_short c =
    λ b a h.
    number (passes (sym c.bad_entry_count.ensures ∙ c.if-bad_entry_count.false)
    (passes (sym (c.bad_area.ensures a h.areas) ∙ c.if-bad_area.false)
    (applies (sym (c.scratch_short.ensures b a.scratch h.module_count h.pair_count h.words) ∙ c.if-scratch_short.true))))

pub returns : goal.returns
unfolding state_tests
returns c =
    λ b a h.
    no_number (passes (sym c.bad_entry_count.ensures ∙ c.if-bad_entry_count.false)
    (passes (sym (c.bad_area.ensures a h.areas) ∙ c.if-bad_area.false)
    (passes (sym (c.scratch_short.ensures b a.scratch h.module_count h.pair_count h.words) ∙ c.if-scratch_short.false) none_applies)))
