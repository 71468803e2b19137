-- `ids::offsets::bad_offsets` meets its contract. The invariant: the test of the offsets from k on gives what the whole test gives.
use mathlib.Core.Path.{◌≡◌}
use lib.ListN.{drop}
use Rattle.ids.specs.Offsets.{bad_offsets}
use Rattle.ids.proofs.offsets.bad_offsets.Given as goal

abbrev pub invariant-loop-k : goal.invariant-loop-k
invariant-loop-k l =
    bad_offsets l.longest l.end (drop l.k l.offsets) ≡ bad_offsets l.longest l.end l.offsets
