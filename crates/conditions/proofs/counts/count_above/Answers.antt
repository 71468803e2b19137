-- `conditions::counts::count_above` meets its contract: its tests are those of the condition, joined from the left.
use mathlib.Core.Bool.{or_assoc}
use Rattle.grouping.specs.Conditions.{count_above}
use Rattle.conditions.proofs.counts.count_above.Goals as goal

pub returns : goal.returns
unfolding count_above
returns c = λ b h. rw (h.modules, h.groups, h.entries, h.names, h.records) (simp or_assoc)
