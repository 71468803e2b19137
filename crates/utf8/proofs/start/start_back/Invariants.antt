-- `utf8::start::start_back` meets its contract. The invariant: from the byte before i back the same start is found.
use Prim.Native.Nat.{◌-◌}
use mathlib.Core.Path.{◌≡◌}
use Rattle.utf8.specs.Start.{start_back}
use Rattle.utf8.proofs.start.start_back.Given as goal

abbrev pub invariant-loop-i : goal.invariant-loop-i
invariant-loop-i l = start_back l.bytes (l.i - 1) ≡ start_back l.bytes l.at
