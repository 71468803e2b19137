-- `utf8::states::next_state` meets its contract. In each state a byte must be among the first values that are due.
use Prim.Native.Nat.{◌≤◌}
use mathlib.Core.List.{◌∷◌}
use mathlib.Core.Path.{sym, ◌∙◌}
use native.Mathlib.Omega.{arith}
use Rattle.utf8.specs.Table.{values, among}
use Rattle.utf8.specs.Utf8.{goes_on}
use Rattle.utf8.specs.States.{due_in, goes_from}
use Rattle.utf8.proofs.StateLaws.{goes_within, goes_nowhere, none_below}
use Rattle.utf8.proofs.states.next_state.Goals as goal

pub returns-in-0 : goal.returns-in-0
returns-in-0 c l = rw c.in-0.is (c.first_state.ensures l)

pub returns-in-1 : goal.returns-in-1
unfolding goes_from goes_on due_in
returns-in-1 c l = rw (c.in-1.is, c.within.ensures) (goes_within (among (values 128 191) c.args.byte) 0 l)

pub returns-in-2 : goal.returns-in-2
unfolding goes_from goes_on due_in
returns-in-2 c l = rw (c.in-2.is, c.within-in-2.ensures) (goes_within (among (values 128 191) c.args.byte) 1 l)

pub returns-in-3 : goal.returns-in-3
unfolding goes_from goes_on due_in
returns-in-3 c l = rw (c.in-3.is, c.within-in-3.ensures) (goes_within (among (values 128 191) c.args.byte) 2 l)

pub returns-in-4 : goal.returns-in-4
unfolding goes_from goes_on due_in
returns-in-4 c l = rw (c.in-4.is, c.within-in-4.ensures) (goes_within (among (values 160 191) c.args.byte) 1 l)

pub returns-in-5 : goal.returns-in-5
unfolding goes_from goes_on due_in
returns-in-5 c l = rw (c.in-5.is, c.within-in-5.ensures) (goes_within (among (values 128 159) c.args.byte) 1 l)

pub returns-in-6 : goal.returns-in-6
unfolding goes_from goes_on due_in
returns-in-6 c l = rw (c.in-6.is, c.within-in-6.ensures) (goes_within (among (values 144 191) c.args.byte) 2 l)

pub returns-in-7 : goal.returns-in-7
unfolding goes_from goes_on due_in
returns-in-7 c l = rw (c.in-7.is, c.within-in-7.ensures) (goes_within (among (values 128 143) c.args.byte) 2 l)

pub returns-in_default : goal.returns-in_default
returns-in_default c l =
    let past : 8 ≤ c.args.state = none_below 8 c.args.state c.in_default.in_default-own.rest in
    goes_nowhere 8 l (omega arith) ∙ sym (goes_nowhere c.args.state (c.args.byte ∷ l) past)
