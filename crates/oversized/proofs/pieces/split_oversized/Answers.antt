-- `oversized::pieces::split_oversized` meets its contract: the tables that are filled are those of the modules.
use Rattle.oversized.specs.Neighbours.{Neighbours}
use Rattle.oversized.proofs.pieces.split_oversized.Goals as goal

pub returns : goal.returns
returns c =
    let modules : Neighbours c.fill_similar.new.similar c.fill_sums.new.sums c.args.total =
    record {
      bytes = c.args.ids.now.bytes.now;
      offsets = c.args.ids.now.offsets.now;
      sizes = c.args.sizes.now;
      order = c.args.order.now;
      tables = c.requires.pending.tables;
      compared = c.fill_similar.ensures;
      summed = c.fill_sums.ensures;
      whole = c.requires.pending.whole;
    } in
    c.cut_pieces.ensures modules
