-- `gentropi::naming::gentropi_name` meets its contract: number and length are those of the callee's answer, and the area is as the callee left it.
use mathlib.Core.Path.{ap}
use Rattle.refusal.proofs.Calls.{exported, value_place}
use Rattle.refusal.specs.Answers.{outcome_of}
use Rattle.gentropi.proofs.naming.gentropi_name.Goals as goal

pub returns-in-Err : goal.returns-in-Err
returns-in-Err c =
    let told = ap outcome_of c.in-Err.is in
    record { call = rw c.number.ensures (exported told c.derive_entries_aware_chunk_name-answer.ensures); place = value_place told c.derive_entries_aware_chunk_name-answer.ensures c.args.length.now }

pub returns-in-Ok : goal.returns-in-Ok
returns-in-Ok c =
    let told = ap outcome_of c.in-Ok.is in
    record { call = exported told c.derive_entries_aware_chunk_name-answer.ensures; place = value_place told c.derive_entries_aware_chunk_name-answer.ensures c.args.length.now }
