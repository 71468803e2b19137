-- `pieces::emit_pieces` meets its contract: the modules in id order are cut into pieces, and a chunk is emitted for each.
-- ---- what is known once the modules are cut
use Prim.Native.Nat.{◌≤◌}
use mathlib.Core.Path.{sym}
use lib.ListN.{length}
use lib.Seq.{length-take-le}
use Rattle.pieces.proofs.Cut.{in_starts, in_totals, in_marks, pieces_parts, pieces_numbers, pieces_converted}
use Rattle.pieces.proofs.emit_pieces.Goals as goal

pub slice_bounds-emit_parts-end : goal.slice_bounds-emit_parts-end
slice_bounds-emit_parts-end c =
    let fits : c.split_oversized-count.result ≤ length c.split_oversized-count.new.starts =
    in_starts c.requires.pieces_ready c.args.minimum c.args.maximum c.split_oversized-count.ensures in
    fits

pub slice_bounds-emit_parts-end-2 : goal.slice_bounds-emit_parts-end-2
slice_bounds-emit_parts-end-2 c =
    let fits : c.split_oversized-count.result ≤ length c.split_oversized-count.new.starts =
    in_starts c.requires.pieces_ready c.args.minimum c.args.maximum c.split_oversized-count.ensures in
    sym (length-take-le _ _ (fits))

pub slice_bounds-emit_parts-end-3 : goal.slice_bounds-emit_parts-end-3
slice_bounds-emit_parts-end-3 c =
    let sizes_fit : c.split_oversized-count.result ≤ length c.split_oversized-count.new.piece_sizes =
    in_totals c.requires.pieces_ready c.args.minimum c.args.maximum c.split_oversized-count.ensures in
    sizes_fit

pub slice_bounds-emit_parts-end-4 : goal.slice_bounds-emit_parts-end-4
slice_bounds-emit_parts-end-4 c =
    let sizes_fit : c.split_oversized-count.result ≤ length c.split_oversized-count.new.piece_sizes =
    in_totals c.requires.pieces_ready c.args.minimum c.args.maximum c.split_oversized-count.ensures in
    sym (length-take-le _ _ (sizes_fit))

pub slice_bounds-emit_parts-end-5 : goal.slice_bounds-emit_parts-end-5
slice_bounds-emit_parts-end-5 c =
    let marks-fit : c.split_oversized-count.result ≤ length c.split_oversized-count.new.marks =
    in_marks c.requires.pieces_ready c.args.minimum c.args.maximum c.split_oversized-count.ensures in
    marks-fit

pub slice_bounds-emit_parts-end-6 : goal.slice_bounds-emit_parts-end-6
slice_bounds-emit_parts-end-6 c =
    let marks-fit : c.split_oversized-count.result ≤ length c.split_oversized-count.new.marks =
    in_marks c.requires.pieces_ready c.args.minimum c.args.maximum c.split_oversized-count.ensures in
    sym (length-take-le _ _ (marks-fit))

pub emit_parts-requires : goal.emit_parts-requires
emit_parts-requires c = record { parts = pieces_parts c.requires.pieces_ready c.args.minimum c.args.maximum c.split_oversized-count.ensures; starts_bound = pieces_numbers c.requires.pieces_ready c.args.minimum c.args.maximum c.split_oversized-count.ensures }

pub returns-clause-emitted : goal.returns-clause-emitted
returns-clause-emitted c =
    pieces_converted c.requires.pieces_ready c.args.minimum c.args.maximum c.split_oversized-count.ensures c.args.head c.emit_parts.ensures.emitted
