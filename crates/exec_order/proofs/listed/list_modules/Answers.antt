-- `exec_order::listed::list_modules` meets its contract. The loop's invariant: the listed modules below m are kept.
use Prim.Native.Nat.{ℕ}
use mathlib.Core.Bool.{Bool}
use mathlib.Core.List.{List}
use mathlib.Core.Path.{◌≡◌, sym, ◌∙◌, subst, subst₂}
use native.Mathlib.Omega.{arith}
use lib.ListN.{length, get_or, set}
use Rattle.lists.specs.Keep.{keep}
use Rattle.lists.specs.Range.{range}
use Rattle.lists.proofs.KeepLoop.{keep_range_in, keep_range_out}
use Rattle.flags.specs.Flags.{listed}
use Rattle.exec_order.specs.Listed.{listed_in, Kept}
use Rattle.exec_order.proofs.Keeping.{none_kept, kept_in, kept_out}
use Rattle.exec_order.proofs.listed.list_modules.Goals as goal
use Rattle.exec_order.proofs.listed.list_modules.Goals.{else-is_listed, then-is_listed}

pub loop-m-init : goal.loop-m-init
unfolding keep range
loop-m-init c = (omega arith, none_kept c.args.list.now)

pub shape_of-list : goal.shape_of-list
shape_of-list c = c.loop-m.invariant.1.same_length

pub returns : goal.returns
unfolding listed_in
returns c =
    let l = c.loop-m in
    let a = c.args in
    let e : l.m ≡ length a.flags.now = omega arith in
    subst (λ (n : ℕ). Kept (keep (λ k. listed (get_or a.flags.now k 0)) (range 0 n)) l.count a.list.now l.list) e l.invariant.1

pub loop-m-preserved : goal.loop-m-preserved
loop-m-preserved c =
    let a = c.args in
    let l = c.loop-m in
    let p : ℕ → Bool = λ k. listed (get_or a.flags.now k 0) in
    let K : List ℕ → ℕ → Type 0 = λ kept r. Kept kept r a.list.now (set l.list l.count l.m) in
    (elim c.if-is_listed.branch [
      | then-is_listed w ↦ (
        omega arith,
        subst₂ K (sym (keep_range_in p l.m (sym c.is_listed.ensures ∙ w.if-is_listed.true))) (sym w.count-is) (kept_in l.invariant.1 l.m (omega arith)),
      )
      | else-is_listed w ↦ (
        omega arith,
        subst₂ K (sym (keep_range_out p l.m (sym c.is_listed.ensures ∙ w.if-is_listed.false))) (sym w.count-is) (kept_out l.invariant.1 l.m),
      )
    ])
