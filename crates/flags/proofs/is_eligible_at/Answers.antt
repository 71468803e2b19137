-- `flags::is_eligible_at` meets its contract: the mask has the three bits that the definition names, and only the third must be zero.
use lib.ListN.{get_or}
use Rattle.flags.specs.Flags.{eligible_at}
use Rattle.flags.proofs.Masks.{eligible_mask}
use Rattle.flags.proofs.is_eligible_at.Goals as goal

pub returns : goal.returns
unfolding eligible_at
returns c = eligible_mask (get_or c.args.flags.now c.args.m.0 0)
