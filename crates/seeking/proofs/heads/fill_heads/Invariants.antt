-- The invariant: the first j heads stand for their blocks.
use Prim.Native.Nat.{ℕ, ◌≤◌, ◌<◌}
use mathlib.Core.Path.{◌≡◌}
use lib.ListN.{length, get_or}
use Rattle.seeking.specs.Seekers.{StandsFor}
use Rattle.seeking.proofs.heads.fill_heads.Given as goal

abbrev pub invariant-loop-j : goal.invariant-loop-j
invariant-loop-j l =
    (l.j ≤ length l.heads) × (length l.heads ≡ length l.initial.heads) × ((i : ℕ) → i < l.j → StandsFor l.threshold l.sizes i (get_or l.heads i 0))
