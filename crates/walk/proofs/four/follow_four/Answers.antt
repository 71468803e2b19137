-- `walk::four::follow_four` meets its contract.
use mathlib.Core.List.Memᴰ
use mathlib.Core.List.{[], ◌∷◌}
use mathlib.Core.Path.{refl, sym, ◌∙◌}
use native.Mathlib.Omega.{arith}
use mir.Facts.{Fits-32_64}
use Rattle.walk.proofs.SideBySide.{side_begins, side_few, side_length, side_turns, side_rest, side_ends}
use Rattle.walk.proofs.SideBySide.{turn_ready, some_ready, more_ready, rest_ready}
use Rattle.walk.proofs.four.follow_four.Goals as goal

pub loop-marks-init : goal.loop-marks-init
loop-marks-init c =
    side_begins c.requires.tables _ _ _ c.requires.state c.requires.chains

pub visit_two-found-requires : goal.visit_two-found-requires
visit_two-found-requires c =
    let e = sym c.go_on.ensures ∙ c.loop-marks-test.true in
    some_ready (c.loop-marks.a ∷ c.loop-marks.b ∷ []) (c.loop-marks.c ∷ c.loop-marks.d ∷ []) (turn_ready c.requires.tables c.loop-marks.invariant e)

pub visit_two-found-requires-in-loop-marks : goal.visit_two-found-requires-in-loop-marks
visit_two-found-requires-in-loop-marks c =
    let e = sym c.go_on.ensures ∙ c.loop-marks-test.true in
    more_ready (c.loop-marks.a ∷ c.loop-marks.b ∷ []) (c.loop-marks.c ∷ c.loop-marks.d ∷ []) (turn_ready c.requires.tables c.loop-marks.invariant e) c.visit_two-found.ensures

pub offset_bounds-next-a : goal.offset_bounds-next-a
offset_bounds-next-a c =
    omega (arith, (c.loop-marks.invariant.chains _ (Memᴰ.head refl)).record_in, c.requires.tables.nexts, c.requires.tables.few)

pub bounds-next-a : goal.bounds-next-a
bounds-next-a c =
    omega (arith, (c.loop-marks.invariant.chains _ (Memᴰ.head refl)).record_in, c.requires.tables.nexts)

pub overflow_cast-a : goal.overflow_cast-a
overflow_cast-a c = Fits-32_64 (c.type_inv.next _)

pub offset_bounds-next-b : goal.offset_bounds-next-b
offset_bounds-next-b c =
    omega (arith, (c.loop-marks.invariant.chains _ (Memᴰ.tail (Memᴰ.head refl))).record_in, c.requires.tables.nexts, c.requires.tables.few)

pub bounds-next-b : goal.bounds-next-b
bounds-next-b c =
    omega (arith, (c.loop-marks.invariant.chains _ (Memᴰ.tail (Memᴰ.head refl))).record_in, c.requires.tables.nexts)

pub overflow_cast-b : goal.overflow_cast-b
overflow_cast-b c = Fits-32_64 (c.type_inv.next _)

pub offset_bounds-next-c : goal.offset_bounds-next-c
offset_bounds-next-c c =
    omega (arith, (c.loop-marks.invariant.chains _ (Memᴰ.tail (Memᴰ.tail (Memᴰ.head refl)))).record_in, c.requires.tables.nexts, c.requires.tables.few)

pub bounds-next-c : goal.bounds-next-c
bounds-next-c c =
    omega (arith, (c.loop-marks.invariant.chains _ (Memᴰ.tail (Memᴰ.tail (Memᴰ.head refl)))).record_in, c.requires.tables.nexts)

pub overflow_cast-c : goal.overflow_cast-c
overflow_cast-c c = Fits-32_64 (c.type_inv.next _)

pub offset_bounds-next-d : goal.offset_bounds-next-d
offset_bounds-next-d c =
    omega (arith, (c.loop-marks.invariant.chains _ (Memᴰ.tail (Memᴰ.tail (Memᴰ.tail (Memᴰ.head refl))))).record_in, c.requires.tables.nexts, c.requires.tables.few)

pub bounds-next-d : goal.bounds-next-d
bounds-next-d c =
    omega (arith, (c.loop-marks.invariant.chains _ (Memᴰ.tail (Memᴰ.tail (Memᴰ.tail (Memᴰ.head refl))))).record_in, c.requires.tables.nexts)

pub overflow_cast-d : goal.overflow_cast-d
overflow_cast-d c = Fits-32_64 (c.type_inv.next _)

pub overflow_add-count : goal.overflow_add-count
overflow_add-count c =
    let p = c.requires in
    omega (arith, side_few p.tables c.loop-marks.invariant, p.few, p.tables.few)

pub loop-marks-smaller : goal.loop-marks-smaller
loop-marks-smaller c =
    let e = sym c.go_on.ensures ∙ c.loop-marks-test.true in
    omega (arith, side_length c.requires.tables c.loop-marks.invariant e)

pub loop-marks-preserved : goal.loop-marks-preserved
loop-marks-preserved c =
    let e = sym c.go_on.ensures ∙ c.loop-marks-test.true in
    side_turns c.requires.tables c.loop-marks.invariant e (rw c.visit_two-found.ensures c.visit_two-found-in-loop-marks.ensures)

pub follow_two-p-requires : goal.follow_two-p-requires
follow_two-p-requires c =
    let p = c.requires in
    rest_ready p.tables (c.loop-marks.a ∷ c.loop-marks.b ∷ []) (c.loop-marks.c ∷ c.loop-marks.d ∷ []) c.loop-marks.invariant (omega (arith, side_few p.tables c.loop-marks.invariant, p.few))

pub follow_two-requires : goal.follow_two-requires
follow_two-requires c =
    let p = c.requires in
    let e = c.follow_two-p.ensures in
    let two = side_rest p.tables (c.loop-marks.a ∷ c.loop-marks.b ∷ []) (c.loop-marks.c ∷ c.loop-marks.d ∷ []) c.loop-marks.invariant e.visited e.gone_value in
    rest_ready p.tables (c.loop-marks.c ∷ c.loop-marks.d ∷ []) [] two (omega (arith, side_few p.tables two, p.few))

pub shape_of-marks : goal.shape_of-marks
shape_of-marks c =
    let p = c.requires in
    c.follow_two.ensures.visited.state.mark_bytes ∙ sym p.state.mark_bytes

pub shape_of-queue : goal.shape_of-queue
shape_of-queue c =
    let p = c.requires in
    let e = c.follow_two-p.ensures in
    let two = side_rest p.tables (c.loop-marks.a ∷ c.loop-marks.b ∷ []) (c.loop-marks.c ∷ c.loop-marks.d ∷ []) c.loop-marks.invariant e.visited e.gone_value in
    c.follow_two.ensures.visited.queue_length ∙ two.queue_length

pub returns : goal.returns
returns c =
    let p = c.requires in
    let e = c.follow_two-p.ensures in
    let two = side_rest p.tables (c.loop-marks.a ∷ c.loop-marks.b ∷ []) (c.loop-marks.c ∷ c.loop-marks.d ∷ []) c.loop-marks.invariant e.visited e.gone_value in
    let q = c.follow_two.ensures in
    let z = side_ends p.tables (side_rest p.tables (c.loop-marks.c ∷ c.loop-marks.d ∷ []) [] two q.visited q.gone_value) in
    record { visited = z.0; gone_value = z.1 }
