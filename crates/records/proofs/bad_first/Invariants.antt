-- `records::bad_first` meets its contract. The loop's invariant: whether some first record passed is above d.
use mathlib.Core.Path.{◌≡◌}
use Rattle.records.specs.Bad.{bad_first}
use Rattle.records.proofs.bad_first.Given as goal

abbrev pub invariant-loop-record : goal.invariant-loop-record
invariant-loop-record l = l.bad ≡ bad_first l.first l.record-index l.d
