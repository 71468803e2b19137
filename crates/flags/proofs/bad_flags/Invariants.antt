-- `flags::bad_flags` meets its contract. The loop's invariant: whether some flag byte passed is above 7.
use mathlib.Core.Path.{◌≡◌}
use Rattle.flags.specs.Flags.{bad_flags}
use Rattle.flags.proofs.bad_flags.Given as goal

abbrev pub invariant-loop-byte : goal.invariant-loop-byte
invariant-loop-byte l = l.bad ≡ bad_flags l.flags l.byte-index
