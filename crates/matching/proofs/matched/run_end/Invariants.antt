-- `matching::matched::run_end` meets its contract. The loop's invariant: all so far have the key.
use Rattle.std.proofs.Common.{◌≡◌, ℕ, ◌+◌, ◌<◌, ◌≤◌, get_or}
use Rattle.lists.specs.Packed.{key_of}
use Rattle.matching.proofs.matched.run_end.Given as goal

abbrev pub invariant-loop-run : goal.invariant-loop-run
invariant-loop-run l = (i : ℕ) → l.from ≤ i → i < l.from + 1 + l.run → key_of (get_or l.matched i 0) ≡ l.key
