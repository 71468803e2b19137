-- `conditions::chains::bad_id` meets its contract: the build hands in the end and the offsets that are tested.
use Rattle.grouping.specs.Conditions.{bad_id}
use Rattle.conditions.proofs.chains.bad_id.Goals as goal

pub returns : goal.returns
unfolding bad_id
returns c = λ b end offsets. rw (end, offsets) c.bad_offsets.ensures
