-- `conditions::chains::bad_dependency` meets its contract: the build hands in the records that are tested.
use Rattle.grouping.specs.Conditions.{bad_dependency}
use Rattle.conditions.proofs.chains.bad_dependency.Goals as goal

pub returns : goal.returns
unfolding bad_dependency
returns c = λ b h. rw (h.module_count, h.record_count, h.firsts, h.modules, h.nexts) c.bad_records.ensures
