-- `sums::answers::bad_answer` meets its contract. The loop's invariant: whether some answer passed is K+2 or more.
use Prim.Native.Nat.{ℕ, ◌+◌}
use mathlib.Core.Bool.{Bool}
use mathlib.Core.List.{List}
use mathlib.Core.Path.{◌≡◌}
use lib.ListN.{get_or}
use lib.Dec.{leb}
use Rattle.lists.specs.Below.{any_below}
use Rattle.sums.proofs.answers.bad_answer.Given as goal

-- answer j is refused
abbrev pub above : ℕ → List ℕ → ℕ → Bool
above k answers j = leb (k + 2) (get_or answers j 0)

abbrev pub invariant-loop-answer : goal.invariant-loop-answer
invariant-loop-answer l = l.bad ≡ any_below (above l.k l.answers) l.answer-index
