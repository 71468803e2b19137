-- No row before k has an entry that far: the loop's invariant.
use mathlib.Core.Bool.{false}
use mathlib.Core.Path.{◌≡◌}
use Rattle.bitset.specs.Entries.{any_beyond}
use Rattle.bitset.proofs.table.any_bit_from.Given as goal

abbrev pub invariant-loop-k : goal.invariant-loop-k
invariant-loop-k l = any_beyond l.entries l.table l.k ≡ false
