-- `cut::scan::consider` meets its contract: a cut that is passed over leaves the best as it is, and any other is compared with it.
use mathlib.Core.Path.{sym, ◌∙◌}
use Rattle.cut.specs.Candidate.{allowed}
use Rattle.cut.proofs.Looking.{too_alike, not_allowed_lem, is_allowed}
use Rattle.cut.proofs.scan.consider.Goals as goal

pub returns-then-rules_out : goal.returns-then-rules_out
returns-then-rules_out c = sym (too_alike _ _ _ (sym c.rules_out.ensures ∙ c.if-rules_out.true))

pub returns-then-not-both_reach : goal.returns-then-not-both_reach
unfolding allowed
returns-then-not-both_reach c = sym (not_allowed_lem _ _ _ (sym c.both_reach.ensures ∙ c.if-not-both_reach.true))

pub returns : goal.returns
unfolding allowed
returns c = c.or_better.ensures ∙ sym (is_allowed _ _ _ (sym c.both_reach.ensures ∙ c.if-not-both_reach.false))
