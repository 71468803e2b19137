-- `conditions::lengths::bad_record_table` meets its contract: its tests are those of the condition, joined from the left.
use Rattle.conditions.proofs.JoinedTests.{record_tables}
use Rattle.conditions.proofs.lengths.bad_record_table.Goals as goal

pub returns : goal.returns
returns c =
    λ b count records e. record_tables b c.args.n c.args.d
    c.args.lengths count records e
