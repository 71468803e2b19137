-- `walk::walk::visit` meets its contract: each way through it is one of the three ways of a visit.
use Prim.Native.Nat.{◌<◌}
use mathlib.Core.Path.{sym, ◌∙◌}
use native.Mathlib.Omega.{arith}
use lib.ListN.{length}
use Rattle.walk.proofs.State.{state_room}
use Rattle.walk.proofs.Visit.{visit_ineligible, visit_marked, visit_new}
use Rattle.walk.proofs.walk.visit.Goals as goal

pub returns-then-marks-at-ne0 : goal.returns-then-marks-at-ne0
returns-then-marks-at-ne0 c =
    let s = c.args in
    visit_marked s.flags.now _ s.named.0 c.if-marks-at-ne0.true

pub returns-then-not-is_eligible_at : goal.returns-then-not-is_eligible_at
returns-then-not-is_eligible_at c =
    let s = c.args in
    visit_ineligible s.flags.now _ s.named.0 (sym c.is_eligible_at.ensures ∙ c.if-not-is_eligible_at.true)

pub offset_bounds-queue-tail : goal.offset_bounds-queue-tail
offset_bounds-queue-tail c =
    let has_room : c.args.tail < length c.args.queue.now =
    state_room c.args.flags.now _ _ c.requires.state c.args.named.0 c.requires.module_in c.if-marks-at-ne0.false in
    omega (arith, has_room)

pub bounds-queue-tail : goal.bounds-queue-tail
bounds-queue-tail c =
    let has_room : c.args.tail < length c.args.queue.now =
    state_room c.args.flags.now _ _ c.requires.state c.args.named.0 c.requires.module_in c.if-marks-at-ne0.false in
    has_room

pub overflow_add-result : goal.overflow_add-result
overflow_add-result c =
    let has_room : c.args.tail < length c.args.queue.now =
    state_room c.args.flags.now _ _ c.requires.state c.args.named.0 c.requires.module_in c.if-marks-at-ne0.false in
    omega (arith, has_room)

pub returns : goal.returns
returns c =
    let is = c.is_eligible_at in
    let el = sym is.ensures ∙ c.if-not-is_eligible_at.false in
    visit_new c.args.flags.now _ c.args.named.0 el c.if-marks-at-ne0.false
