-- `records::all_ascend` meets its contract. The loop's invariant: whether the records before r ascend.
use Prim.Native.Nat.{suc, ◌-◌}
use mathlib.Core.Path.{◌≡◌, refl, ap, ◌∙◌}
use native.Mathlib.Omega.{arith}
use Rattle.lists.specs.Below.{all_below}
use Rattle.records.specs.Ascending.{all_ascend}
use Rattle.records.proofs.FromOne.{all_next}
use Rattle.records.proofs.all_ascend.Invariants.{ascends}
use Rattle.records.proofs.all_ascend.Goals as goal

pub loop-r-init : goal.loop-r-init
unfolding all_below
loop-r-init c = refl

pub loop-r-preserved : goal.loop-r-preserved
loop-r-preserved c =
    let l = c.loop-r in
    rw l.invariant (all_next (ascends c.args.next.now) l.r (omega arith))

pub returns : goal.returns
unfolding all_ascend
returns c =
    let l = c.loop-r in
    let e : l.r - 1 ≡ c.args.d = omega arith in
    l.invariant ∙ ap (all_below (λ k. ascends c.args.next.now (suc k))) e
