-- `conditions::limits::nan_among_groups` meets its contract. The loop's invariant: no group passed has a NaN.
use Prim.Native.Nat.{◌<◌}
use mathlib.Core.Path.{sym, ap, ◌∙◌}
use native.Mathlib.Nat.{not-suc-le-zero}
use native.Mathlib.Omega.{arith}
use borrow.Author.Count.{below_more}
use Rattle.options.specs.Nan.{nan_group}
use Rattle.lists.proofs.Below.{any_none, any_some}
use Rattle.conditions.proofs.limits.nan_among_groups.Goals as goal

pub loop-i-init : goal.loop-i-init
loop-i-init c = (omega arith, λ k h. absurd (not-suc-le-zero h))

pub group_at-group-requires : goal.group_at-group-requires
group_at-group-requires c = c.requires c.loop-i.i (omega arith)

pub returns-then-nan_group : goal.returns-then-nan_group
returns-then-nan_group c =
    let l = c.loop-i in
    let below : l.i < c.args.g = omega arith in
    sym (any_some _ c.args.g l.i below (ap nan_group (sym c.group_at-group.ensures) ∙ sym c.nan_group.ensures ∙ c.if-nan_group.true))

pub loop-i-preserved : goal.loop-i-preserved
loop-i-preserved c =
    let l = c.loop-i in (
      omega arith,
      below_more _ l.i l.invariant.1 (ap nan_group (sym c.group_at-group.ensures) ∙ sym c.nan_group.ensures
          ∙ c.if-nan_group.false),
    )

pub returns : goal.returns
returns c =
    sym (any_none _ c.args.g
    (λ j h. c.loop-i.invariant.1 j (omega arith)))
