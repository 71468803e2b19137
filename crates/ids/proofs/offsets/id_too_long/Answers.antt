-- `ids::offsets::id_too_long` meets its contract: the length limit is the definition's.
use mathlib.Core.Path.{refl}
use Rattle.ids.specs.Offsets.{id_too_long}
use Rattle.ids.proofs.offsets.id_too_long.Goals as goal

pub returns : goal.returns
unfolding id_too_long
returns c = refl
