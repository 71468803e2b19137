-- `seeking::words::fill_words` meets its contract: one word more is written a turn, the rest are as they were.
use Prim.Native.Nat.{◌*◌}
use mathlib.Core.List.{map}
use lib.ListN.{length, get_or}
use Rattle.lists.specs.Range.{range}
use Rattle.lists.proofs.Front.{Copied}
use Rattle.seeking.proofs.words.fill_words.Given as goal

abbrev pub invariant-loop-i : goal.invariant-loop-i
invariant-loop-i l = Copied (map (λ i. get_or l.bits (4 * i) 0) (range 0 (length l.initial.words))) l.initial.words l.words l.i
