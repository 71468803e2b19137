-- `oversized::neighbours::fill_similar` meets its contract. The loop's invariant: the entries below i, but the first, are filled.
use Prim.Native.Nat.{ℕ, ◌-◌}
use native.Mathlib.Omega.{arith}
use lib.ListN.{get_or, length-set}
use Rattle.cut.specs.Order.{alike}
use Rattle.oversized.proofs.Filled.{one_filled}
use Rattle.oversized.proofs.neighbours.fill_similar.Goals as goal

pub loop-i-init : goal.loop-i-init
loop-i-init c = (omega arith, c.requires.1, λ k from h. absurd (omega arith))

pub loop-i-preserved : goal.loop-i-preserved
loop-i-preserved c =
    let l = c.loop-i in
    let a = c.args in
    let f : ℕ → ℕ = λ k. alike a.ids.now.bytes.now a.ids.now.offsets.now (get_or a.order.now (k - 1) 0) (get_or a.order.now k 0) in (
      omega arith,
      simp length-set l.invariant.1,
      one_filled 0 f 1 l.similar l.i c.similarity_between.result (omega arith) c.similarity_between.ensures l.invariant.2,
    )

pub returns : goal.returns
returns c =
    let v = c.loop-i.invariant in
    record { as_many = v.1; each = λ k from h. v.2 k from (omega arith) }
