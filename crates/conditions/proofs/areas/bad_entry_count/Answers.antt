-- `conditions::areas::bad_entry_count` meets its contract: it is the definition's test.
use mathlib.Core.Path.{refl}
use Rattle.grouping.specs.Conditions.{bad_entry_count}
use Rattle.conditions.proofs.areas.bad_entry_count.Goals as goal

pub returns : goal.returns
unfolding bad_entry_count
returns c = refl
