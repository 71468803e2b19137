-- `exec_order::listed::keep_eligible` meets its contract. The loop's invariant: the eligible ones of the first i are kept.
use Prim.Native.Nat.{ℕ, ◌<◌}
use mathlib.Core.Bool.{Bool}
use mathlib.Core.List.{List}
use mathlib.Core.Path.{sym, ◌∙◌, subst, subst₂}
use native.Mathlib.Omega.{arith}
use lib.ListN.{length, get_or, set}
use lib.Seq.{take_all}
use Rattle.lists.specs.Keep.{keep}
use Rattle.lists.proofs.KeepLoop.{keep_take_in, keep_take_out}
use Rattle.flags.specs.Flags.{eligible_at}
use Rattle.exec_order.specs.Listed.{Kept}
use Rattle.exec_order.proofs.Keeping.{none_kept, kept_in, kept_out}
use Rattle.exec_order.proofs.listed.keep_eligible.Goals as goal
use Rattle.exec_order.proofs.listed.keep_eligible.Goals.{else-is_eligible_at, then-is_eligible_at}

pub loop-m-init : goal.loop-m-init
unfolding keep
loop-m-init c = (omega arith, none_kept c.args.order.now)

pub is_eligible_at-requires : goal.is_eligible_at-requires
is_eligible_at-requires c = c.requires.has_flags c.loop-m.m-index (omega arith)

pub shape_of-order : goal.shape_of-order
shape_of-order c = c.loop-m.invariant.1.same_length

pub returns : goal.returns
returns c =
    let l = c.loop-m in
    let a = c.args in
    subst (λ (k : List ℕ). Kept (keep (eligible_at a.flags.now) k) l.count a.order.now l.order)
    (take_all l.m-index a.list.now (omega arith)) l.invariant.1

pub loop-m-preserved : goal.loop-m-preserved
loop-m-preserved c =
    let a = c.args in
    let l = c.loop-m in
    let p : ℕ → Bool = eligible_at a.flags.now in
    let m : ℕ = get_or a.list.now l.m-index 0 in
    let h : l.m-index < length a.list.now = omega arith in
    let K : List ℕ → ℕ → Type 0 = λ kept r. Kept kept r a.order.now (set l.order l.count m) in
    (elim c.if-is_eligible_at.branch [
      | then-is_eligible_at w ↦ (
        omega arith,
        subst₂ K (sym (keep_take_in p a.list.now l.m-index 0 h (sym c.is_eligible_at.ensures ∙ w.if-is_eligible_at.true))) (sym w.count-is)
            (kept_in l.invariant.1 m (omega arith)),
      )
      | else-is_eligible_at w ↦ (
        omega arith,
        subst₂ K (sym (keep_take_out p a.list.now l.m-index 0 h (sym c.is_eligible_at.ensures ∙ w.if-is_eligible_at.false))) (sym w.count-is)
            (kept_out l.invariant.1 m),
      )
    ])
