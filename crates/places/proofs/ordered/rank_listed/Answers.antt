-- `places::ordered::rank_listed` meets its contract: the list is made, and ranked.
use Prim.Native.Nat.{ℕ}
use mathlib.Core.List.{List}
use mathlib.Core.Path.{sym, subst}
use native.Mathlib.Omega.{arith}
use Rattle.ranks.specs.ById.{Rankable}
use Rattle.exec_order.proofs.Keeping.{kept_fits, kept_length}
use Rattle.places.proofs.Handing.{listed_length, listed_rankable}
use borrow.Author.Rules.{rules}
use Rattle.places.proofs.ordered.rank_listed.Goals as goal

pub slice_bounds-rank_by_id-end : goal.slice_bounds-rank_by_id-end
slice_bounds-rank_by_id-end c =
    kept_fits c.list_modules-count.ensures (omega (arith, listed_length c.args.flags.now, c.requires.list_room))

pub slice_bounds-rank_by_id-end-2 : goal.slice_bounds-rank_by_id-end-2
slice_bounds-rank_by_id-end-2 c = kept_length c.list_modules-count.ensures

pub rank_by_id-requires : goal.rank_by_id-requires
rank_by_id-requires c =
    subst (λ (l : List ℕ). Rankable c.args.ids.now.bytes.now c.args.ids.now.offsets.now l c.args.rank.now)
    (sym c.list_modules-count.ensures.first) (listed_rankable c.args.flags.now c.requires)

pub returns : goal.returns
returns c =
    record { ranked = rw c.list_modules-count.ensures.first at c.rank_by_id.ensures; same_length = search rules }
