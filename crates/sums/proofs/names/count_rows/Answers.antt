-- `sums::names::count_rows` meets its contract. The loop's invariant: the rows of the first i groups are counted.
use Prim.Native.Nat.{◌-◌}
use mathlib.Core.Path.{◌≡◌}
use native.Mathlib.Omega.{arith}
use lib.ListN.{length}
use Rattle.sums.proofs.RowCount.{row_bound, row_in, row_part}
use Rattle.sums.proofs.RowCount.{rows_begin, rows_turn, row_ready}
use Rattle.sums.proofs.names.count_rows.Goals as goal

pub loop-i-init : goal.loop-i-init
loop-i-init c =
    rows_begin c.args.answers.now (length c.args.seen.now - 2) c.args.n c.args.seen.now (omega (arith, c.requires.unnamed)) c.requires.clear

pub overflow_mul-start : goal.overflow_mul-start
overflow_mul-start c =
    let l = c.loop-i in
    omega (arith, row_bound l.i c.args.g c.args.n (omega arith) c.requires.groups c.requires.modules)

pub overflow_add-end : goal.overflow_add-end
overflow_add-end c =
    let l = c.loop-i in
    omega (arith, row_bound l.i c.args.g c.args.n (omega arith) c.requires.groups c.requires.modules)

pub offset_bounds-answers-start : goal.offset_bounds-answers-start
offset_bounds-answers-start c =
    let l = c.loop-i in
    omega (arith, row_bound l.i c.args.g c.args.n (omega arith) c.requires.groups c.requires.modules)

pub slice_bounds-count_names-end : goal.slice_bounds-count_names-end
slice_bounds-count_names-end c =
    let l = c.loop-i in
    omega (arith, row_in c.args.answers.now 0 c.args.n l.i c.args.g (omega arith) c.requires.whole)

pub overflow_cast-i : goal.overflow_cast-i
overflow_cast-i c =
    let l = c.loop-i in
    omega (arith, c.requires.groups)

pub count_names-count-requires : goal.count_names-count-requires
count_names-count-requires c =
    let l = c.loop-i in
    rw (row_part c.args.answers.now (length c.args.seen.now - 2) c.args.n l.i)
    (row_ready c.args.answers.now (length c.args.seen.now - 2) c.args.n l.i c.args.g l.seen l.count (omega arith)
    c.requires.whole (λ j h. omega (arith, c.requires.within j h, c.requires.unnamed)) l.invariant)

pub overflow_add-count : goal.overflow_add-count
overflow_add-count c =
    let l = c.loop-i in
    let counted = rw (row_part c.args.answers.now (length c.args.seen.now - 2) c.args.n l.i) at c.count_names-count.ensures in
    let t = rows_turn c.args.answers.now (length c.args.seen.now - 2) c.args.n l.i c.args.g l.seen _ l.count
    c.count_names-count.result (omega arith) c.requires.whole l.invariant counted in
    omega (arith, t.few, row_bound l.i c.args.g c.args.n (omega arith) c.requires.groups c.requires.modules)

pub loop-i-preserved : goal.loop-i-preserved
loop-i-preserved c =
    let l = c.loop-i in
    let counted = rw (row_part c.args.answers.now (length c.args.seen.now - 2) c.args.n l.i) at c.count_names-count.ensures in
    let t = rows_turn c.args.answers.now (length c.args.seen.now - 2) c.args.n l.i c.args.g l.seen _ l.count
    c.count_names-count.result (omega arith) c.requires.whole l.invariant counted in
    t

pub shape_of-seen : goal.shape_of-seen
shape_of-seen c = omega (arith, c.loop-i.invariant.same_length, c.requires.unnamed)

pub returns : goal.returns
returns c =
    let l = c.loop-i in
    let all : l.i ≡ c.args.g = omega arith in
    record { counted = rw all at l.invariant.counted; few = rw all at l.invariant.few }
