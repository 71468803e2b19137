-- `places::ordered::order_listed` meets its contract: the list is made, and put in execution order.
use Prim.Native.Nat.{ℕ}
use mathlib.Core.List.{List}
use mathlib.Core.Path.{sym, subst}
use native.Mathlib.Omega.{arith}
use Rattle.exec_order.specs.ByOrder.{Modules}
use Rattle.places.specs.Ordered.{answer_of}
use Rattle.exec_order.proofs.Keeping.{kept_fits, kept_length}
use Rattle.places.proofs.Handing.{listed_length, listed_modules, listed_in_order}
use Rattle.places.proofs.ordered.order_listed.Goals as goal

pub slice_bounds-put_by_order-end : goal.slice_bounds-put_by_order-end
slice_bounds-put_by_order-end c =
    kept_fits c.list_modules-count.ensures (omega (arith, listed_length c.args.flags.now, c.requires.list_room))

pub slice_bounds-put_by_order-end-2 : goal.slice_bounds-put_by_order-end-2
slice_bounds-put_by_order-end-2 c = kept_length c.list_modules-count.ensures

pub put_by_order-requires : goal.put_by_order-requires
put_by_order-requires c = (
  subst (λ (l : List ℕ). Modules c.args.orders.now l) (sym c.list_modules-count.ensures.first) (listed_modules c.args.flags.now c.requires),
  omega (arith, kept_length c.list_modules-count.ensures, c.list_modules-count.ensures.count, listed_length c.args.flags.now, c.requires.few),
)

pub returns-then-put_by_order : goal.returns-then-put_by_order
unfolding answer_of
returns-then-put_by_order c =
    listed_in_order c.args.flags.now c.requires c.list_modules-count.ensures c.put_by_order.ensures c.if-put_by_order.true

pub returns : goal.returns
unfolding answer_of
returns c =
    listed_in_order c.args.flags.now c.requires c.list_modules-count.ensures c.put_by_order.ensures c.if-put_by_order.false
