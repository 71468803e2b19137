-- `conditions::lengths::bad_module_table` meets its contract: its tests are those of the condition, joined from the left.
use Rattle.conditions.proofs.JoinedTests.{module_tables}
use Rattle.conditions.proofs.lengths.bad_module_table.Goals as goal

pub returns : goal.returns
returns c =
    λ b count e. module_tables b c.args.n
    c.args.lengths count e
