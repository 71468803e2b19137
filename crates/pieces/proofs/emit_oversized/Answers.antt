-- `pieces::emit_oversized` meets its contract: local areas are lent as far as the modules need them.
use Prim.Native.Nat.{◌≤◌}
use mathlib.Core.Path.{sym}
use native.Mathlib.Omega.{arith}
use lib.ListN.{length}
use lib.Seq.{length-take-le}
use Rattle.pieces.proofs.emit_oversized.Goals as goal

pub slice_bounds-emit_pieces-end : goal.slice_bounds-emit_pieces-end
slice_bounds-emit_pieces-end c =
    let h : length c.args.order.now ≤ 256 = omega arith in
    sym (length-take-le _ _ h)

pub slice_bounds-emit_pieces-end-then-n-le256 : goal.slice_bounds-emit_pieces-end-then-n-le256
slice_bounds-emit_pieces-end-then-n-le256 c =
    let h : length c.args.order.now ≤ 256 = omega arith in
    sym (length-take-le _ _ h)

pub emit_pieces-requires : goal.emit_pieces-requires
emit_pieces-requires c =
    let h : length c.args.order.now ≤ 256 = omega arith in record { pieces_ready = c.requires; lent = record { similar_length = length-take-le _ _ h; sums_length = length-take-le _ _ h; starts_room = h; totals_room = h; marks_room = h } }

pub slice_bounds-emit_pieces-end-2 : goal.slice_bounds-emit_pieces-end-2
slice_bounds-emit_pieces-end-2 c =
    sym (length-take-le _ _ c.requires.pending.few)

pub slice_bounds-emit_pieces-end-3 : goal.slice_bounds-emit_pieces-end-3
slice_bounds-emit_pieces-end-3 c =
    sym (length-take-le _ _ c.requires.pending.few)

pub emit_pieces-requires-2 : goal.emit_pieces-requires-2
emit_pieces-requires-2 c =
    let h = c.requires.pending.few in record { pieces_ready = c.requires; lent = record { similar_length = length-take-le _ _ h; sums_length = length-take-le _ _ h; starts_room = h; totals_room = h; marks_room = h } }
