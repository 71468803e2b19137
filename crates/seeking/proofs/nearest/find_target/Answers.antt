-- The nearest of the list, if it has a number.
use mathlib.Core.Path.{sym}
use native.Mathlib.Omega.{arith}
use lib.ListN.{get_or}
use lib.Seq.{length-take-le}
use Rattle.joins.specs.Candidate.{comes_first, target_at}
use Rattle.seeking.proofs.Searching.{search_empty}
use Rattle.seeking.proofs.nearest.find_target.Goals as goal

pub returns-then-there-eq0 : goal.returns-then-there-eq0
returns-then-there-eq0 c =
    let a = c.args in
    search_empty (target_at a.sizes.now a.bits.now a.wanted) comes_first a.there.now c.if-there-eq0.true

pub overflow_cast-there : goal.overflow_cast-there
overflow_cast-there c = omega (arith, c.type_inv.there 0)

pub target_at-one-requires : goal.target_at-one-requires
target_at-one-requires c =
    let r = c.requires.readable in
    let h = r.inside 0 (omega arith) in
    record { has_size = h; has_bits = omega (arith, c.requires.rows); exact = r.exact (get_or c.args.there.now 0 0) h }

pub slice_bounds-nearest_listed-end : goal.slice_bounds-nearest_listed-end
slice_bounds-nearest_listed-end c = sym (length-take-le _ _ (omega (arith, c.block_count-blocks.ensures.0)))

pub returns : goal.returns
returns c = c.nearest_listed.ensures
