-- `conditions::areas::bad_area` meets its contract: its tests are those of the condition, joined from the left.
use Rattle.conditions.proofs.JoinedTests.{areas}
use Rattle.conditions.proofs.areas.bad_area.Goals as goal

pub returns : goal.returns
returns c =
    λ a e. areas a c.args.n
    c.args.lengths e
