-- `records::bad_record` meets its contract. The loop's invariant: whether some record before r has a next or a module out of range.
use Prim.Native.Nat.{suc, ◌-◌}
use mathlib.Core.Path.{◌≡◌, refl, ap, ◌∙◌}
use native.Mathlib.Omega.{arith}
use Rattle.lists.specs.Below.{any_below}
use Rattle.records.specs.Bad.{bad_record}
use Rattle.records.proofs.FromOne.{any_next}
use Rattle.records.proofs.bad_record.Invariants.{beyond}
use Rattle.records.proofs.bad_record.Goals as goal

pub loop-r-init : goal.loop-r-init
unfolding any_below
loop-r-init c = refl

pub loop-r-preserved : goal.loop-r-preserved
loop-r-preserved c =
    let s = c.args in
    let l = c.loop-r in
    rw l.invariant (any_next (beyond s.dependency.now s.next.now s.n s.d) l.r (omega arith))

pub returns : goal.returns
unfolding bad_record
returns c =
    let s = c.args in
    let l = c.loop-r in
    let e : l.r - 1 ≡ s.d = omega arith in
    l.invariant ∙ ap (any_below (λ k. beyond s.dependency.now s.next.now s.n s.d (suc k))) e
