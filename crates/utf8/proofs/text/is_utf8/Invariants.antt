-- `utf8::text::is_utf8` meets its contract. The invariant: from the state on, the bytes that are left are text as the whole bytes are.
use mathlib.Core.Path.{◌≡◌}
use lib.ListN.{drop}
use Rattle.utf8.specs.Utf8.{utf8}
use Rattle.utf8.specs.States.{goes_from}
use Rattle.utf8.proofs.text.is_utf8.Given as goal

abbrev pub invariant-loop-byte : goal.invariant-loop-byte
invariant-loop-byte l = goes_from l.state (drop l.byte-index l.bytes) ≡ utf8 l.bytes
