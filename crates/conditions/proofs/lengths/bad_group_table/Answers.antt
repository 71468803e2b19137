-- `conditions::lengths::bad_group_table` meets its contract: its tests are those of the condition, joined from the left.
use Rattle.conditions.proofs.JoinedTests.{group_tables}
use Rattle.conditions.proofs.lengths.bad_group_table.Goals as goal

pub returns : goal.returns
returns c =
    λ t e. group_tables t c.args.g
    c.args.lengths e
