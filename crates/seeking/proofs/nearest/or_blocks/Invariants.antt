-- The invariant: the nearest so far, once the blocks up to j were looked at.
use Prim.Native.Nat.{◌*◌, ◌≤◌}
use Rattle.seeking.specs.Search.{Nearer}
use Rattle.seeking.proofs.nearest.or_blocks.Given as goal

abbrev pub invariant-loop-j : goal.invariant-loop-j
invariant-loop-j l = (l.j ≤ l.end) × Nearer l.there l.sizes l.bits l.wanted l.initial.nearest l.nearest (16 * l.from) (16 * l.j)
