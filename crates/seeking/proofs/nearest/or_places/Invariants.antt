-- The invariant: the nearest so far, once the places up to i were looked at.
use Prim.Native.Nat.{◌≤◌}
use Rattle.seeking.specs.Search.{Nearer}
use Rattle.seeking.proofs.nearest.or_places.Given as goal

abbrev pub invariant-loop-i : goal.invariant-loop-i
invariant-loop-i l = (l.i ≤ l.end) × Nearer l.there l.sizes l.bits l.wanted l.initial.nearest l.nearest l.from l.i
