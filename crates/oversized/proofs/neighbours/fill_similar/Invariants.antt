-- `oversized::neighbours::fill_similar` meets its contract. The loop's invariant: the entries below i, but the first, are filled.
use Prim.Native.Nat.{◌≤◌}
use Prim.Native.Nat.{◌-◌}
use mathlib.Core.Path.{◌≡◌}
use lib.ListN.{length, get_or}
use Rattle.cut.specs.Order.{alike}
use Rattle.oversized.proofs.Filled.{Filled}
use Rattle.oversized.proofs.neighbours.fill_similar.Given as goal

abbrev pub invariant-loop-i : goal.invariant-loop-i
invariant-loop-i l =
    (1 ≤ l.i) × (length l.similar ≡ length l.order) × Filled 0 (λ k. alike l.ids.bytes.now l.ids.offsets.now (get_or l.order (k - 1) 0) (get_or l.order k 0)) 1 l.similar l.i
