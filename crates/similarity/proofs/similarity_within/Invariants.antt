-- `similarity::similarity_within` meets its contract. The invariant: the score so far and the similarity from byte i on add to the
-- whole similarity, and the score is at most 10 for each byte passed.
use Prim.Native.Nat.{◌+◌, ◌*◌, ◌≤◌}
use mathlib.Core.Path.{◌≡◌}
use lib.ListN.{drop}
use Rattle.similarity.specs.Similarity.{similarity}
use Rattle.similarity.proofs.similarity_within.Given as goal

abbrev pub invariant-loop-i : goal.invariant-loop-i
invariant-loop-i l =
    (l.score + similarity (drop l.i l.lhs) (drop l.i l.rhs) ≡ similarity l.lhs l.rhs) × (l.score ≤ 10 * l.i)
