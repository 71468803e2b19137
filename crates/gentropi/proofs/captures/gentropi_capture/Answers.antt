-- `gentropi::captures::gentropi_capture` meets its contract: the number is that of the callee's answer, and the areas are as the callee left them.
use mathlib.Core.Path.{ap}
use Rattle.refusal.proofs.Calls.{exported}
use Rattle.refusal.specs.Answers.{outcome_of}
use Rattle.gentropi.proofs.captures.gentropi_capture.Goals as goal

pub returns-in-Err : goal.returns-in-Err
returns-in-Err c =
    rw c.number.ensures (exported (ap outcome_of c.in-Err.is) c.add_module_and_dependencies_to_group_recursively-answer.ensures)

pub returns-in-Ok : goal.returns-in-Ok
returns-in-Ok c =
    exported (ap outcome_of c.in-Ok.is) c.add_module_and_dependencies_to_group_recursively-answer.ensures
