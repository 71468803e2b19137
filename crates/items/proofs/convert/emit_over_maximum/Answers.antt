-- `items::convert::emit_over_maximum` meets its contract: put in id order the modules can be cut, and the pieces are the item's.
use Rattle.items.proofs.InPieces.{order_ready, order_chunks}
use Rattle.items.proofs.Within.{same_converted}
use Rattle.items.proofs.convert.emit_over_maximum.Goals as goal

pub emit_oversized-requires : goal.emit_oversized-requires
emit_oversized-requires c =
    order_ready c.requires.item_ready c.requires.totalled.some c.in_id_order.ensures c.requires.totalled.whole

pub returns-clause-emitted : goal.returns-clause-emitted
returns-clause-emitted c =
    let a = c.args in
    same_converted (order_chunks c.requires.item_ready c.requires.totalled.some c.in_id_order.ensures a.head a.minimum a.maximum) c.emit_oversized.ensures.emitted
