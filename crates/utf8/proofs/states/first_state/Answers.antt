-- `utf8::states::first_state` meets its contract. Single bytes compute; each range has its law.
use native.Mathlib.Omega.{arith}
use Rattle.utf8.specs.Table.{characters, begins, following}
use Rattle.utf8.specs.Utf8.{goes_on}
use Rattle.utf8.specs.States.{due_in, goes_from}
use Rattle.utf8.proofs.StateLaws.{first_00, first_80, first_C2, first_E1, first_EE, first_F1, first_F5}
use Rattle.utf8.proofs.states.first_state.Goals as goal

pub returns-in-224 : goal.returns-in-224
unfolding goes_from goes_on due_in characters begins following
returns-in-224 c l = rw c.in-224.is

pub returns-in-237 : goal.returns-in-237
unfolding goes_from goes_on due_in characters begins following
returns-in-237 c l = rw c.in-237.is

pub returns-in-240 : goal.returns-in-240
unfolding goes_from goes_on due_in characters begins following
returns-in-240 c l = rw c.in-240.is

pub returns-in-244 : goal.returns-in-244
unfolding goes_from goes_on due_in characters begins following
returns-in-244 c l = rw c.in-244.is

pub returns-in-0-to-127 : goal.returns-in-0-to-127
returns-in-0-to-127 c l = first_00 _ l (omega arith)

pub returns-in-194-to-223 : goal.returns-in-194-to-223
returns-in-194-to-223 c l = first_C2 _ l (omega arith) (omega arith)

pub returns-in-225-to-236 : goal.returns-in-225-to-236
returns-in-225-to-236 c l = first_E1 _ l (omega arith) (omega arith)

pub returns-in-238-to-239 : goal.returns-in-238-to-239
returns-in-238-to-239 c l = first_EE _ l (omega arith) (omega arith)

pub returns-in-241-to-243 : goal.returns-in-241-to-243
returns-in-241-to-243 c l = first_F1 _ l (omega arith) (omega arith)

pub returns-in_default : goal.returns-in_default
returns-in_default c l = first_80 _ l (omega arith) (omega arith)

pub returns-in_default-2 : goal.returns-in_default-2
returns-in_default-2 c l = first_F5 _ l (omega arith)
