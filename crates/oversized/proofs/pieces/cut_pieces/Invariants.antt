-- `oversized::pieces::cut_pieces` meets its contract: each turn finishes the part on top of the stack, or cuts it and looks at its right side
-- next. The measure is twice the end of that part, less how many parts there are.
use Prim.Native.Nat.{◌-◌, ◌*◌, ◌≤◌}
use mathlib.Core.Path.{◌≡◌}
use lib.ListN.{length}
use Rattle.oversized.specs.Neighbours.{Neighbours}
use Rattle.oversized.proofs.Areas.{Turning}
use Rattle.oversized.proofs.pieces.cut_pieces.Given as goal

abbrev pub invariant-loop-top : goal.invariant-loop-top
invariant-loop-top l =
    ((m : Neighbours l.similar l.sums l.total) → Turning m l.minimum l.maximum l.starts l.piece_sizes l.marks l.top l.end l.count)
    × (l.top ≤ length l.similar)
    × (length l.starts ≡ length l.initial.starts)
    × (length l.piece_sizes ≡ length l.initial.piece_sizes)
    × (length l.marks ≡ length l.initial.marks)

abbrev pub decreases-loop-top : goal.decreases-loop-top
decreases-loop-top l = 2 * l.end - (length l.similar - l.top)
