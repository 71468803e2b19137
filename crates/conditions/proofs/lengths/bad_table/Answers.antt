-- `conditions::lengths::bad_table` meets its contract: the four parts of the condition, joined from the left.
use Rattle.conditions.proofs.JoinedTests.{tables}
use Rattle.conditions.proofs.lengths.bad_table.Goals as goal

pub returns : goal.returns
returns c =
    λ b h. rw (
      c.bad_module_table.ensures b h.module_count h.by_module,
      c.bad_record_table.ensures b h.module_count h.record_count h.by_record,
      c.bad_group_table.ensures b.variant.groups h.by_group,
      c.bad_answer_table.ensures b h.module_count h.group_count h.by_answer,
    ) (tables b c.args.g
    h.group_count)
