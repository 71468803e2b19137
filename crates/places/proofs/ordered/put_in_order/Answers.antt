-- `places::ordered::put_in_order` meets its contract: refusal 4, and then refusal 5 or both orders.
use Rattle.places.proofs.Handing.{refused_id, ids_apart}
use Rattle.places.proofs.ordered.put_in_order.Goals as goal

pub returns-then-rank_listed : goal.returns-then-rank_listed
returns-then-rank_listed c = λ b h. refused_id h (rw c.if-rank_listed.true at c.rank_listed.ensures)

pub returns : goal.returns
returns c =
    λ b h. ids_apart h (rw c.if-rank_listed.false at c.rank_listed.ensures) c.order_listed.ensures
