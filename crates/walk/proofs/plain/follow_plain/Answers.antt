-- `walk::plain::follow_plain` meets its contract. The loop's invariant: what is left to do from record r on is what was to be done from the chain's
-- first record on. The measure is the number of records left, and with those gone along they are not many.
use mathlib.Core.Path.{sym, ◌∙◌}
use native.Mathlib.Omega.{arith}
use mir.Facts.{Fits-32_64}
use Rattle.walk.proofs.Passing.{pass_begins, pass_few, pass_ends, pass_counted, pass_less, pass_turns, named_in}
use Rattle.walk.proofs.plain.follow_plain.Goals as goal

pub loop-r-init : goal.loop-r-init
loop-r-init c =
    pass_begins c.requires.tables _ _ _ c.requires.state c.requires.chain

pub offset_bounds-dependency-r : goal.offset_bounds-dependency-r
offset_bounds-dependency-r c = omega (arith, c.loop-r.invariant.chain.record_in, c.requires.tables.modules)

pub bounds-dependency-r : goal.bounds-dependency-r
bounds-dependency-r c = omega (arith, c.loop-r.invariant.chain.record_in, c.requires.tables.modules)

pub visit-found-requires : goal.visit-found-requires
visit-found-requires c =
    let h = c.loop-r-test.true in
    record {
      state = c.loop-r.invariant.state;
      module_in = named_in c.requires.tables c.loop-r.invariant.chain h;
    }

pub offset_bounds-next-r : goal.offset_bounds-next-r
offset_bounds-next-r c =
    omega (arith, c.loop-r.invariant.chain.record_in, c.requires.tables.nexts)

pub bounds-next-r : goal.bounds-next-r
bounds-next-r c =
    omega (arith, c.loop-r.invariant.chain.record_in, c.requires.tables.nexts)

pub overflow_cast-r : goal.overflow_cast-r
overflow_cast-r c = Fits-32_64 (c.type_inv.next _)

pub overflow_add-count : goal.overflow_add-count
overflow_add-count c =
    omega (arith, pass_few c.requires.tables c.loop-r.invariant, c.requires.few, c.requires.tables.few)

pub loop-r-smaller : goal.loop-r-smaller
loop-r-smaller c =
    let h = c.loop-r-test.true in
    pass_less c.requires.tables c.loop-r.invariant h

pub loop-r-preserved : goal.loop-r-preserved
loop-r-preserved c =
    let h = c.loop-r-test.true in
    let v = c.visit-found.ensures in
    pass_turns c.requires.tables c.loop-r.invariant h v

pub shape_of-marks : goal.shape_of-marks
shape_of-marks c = c.loop-r.invariant.state.mark_bytes ∙ sym c.requires.state.mark_bytes

pub shape_of-queue : goal.shape_of-queue
shape_of-queue c = c.loop-r.invariant.queue_length

pub returns : goal.returns
returns c =
    let z = c.loop-r-test.false in record { from_value = pass_ends c.requires.tables c.loop-r.invariant z; gone_value = pass_counted c.requires.tables c.loop-r.invariant z }
