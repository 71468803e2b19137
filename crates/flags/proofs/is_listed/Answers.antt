-- `flags::is_listed` meets its contract: the mask has the two bits that the definition names.
use Rattle.flags.proofs.Masks.{listed_mask}
use Rattle.flags.proofs.is_listed.Goals as goal

pub returns : goal.returns
returns c = listed_mask c.args.flags
