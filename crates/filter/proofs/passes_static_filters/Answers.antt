-- `filter::passes_static_filters` meets its contract: each way out by what its test says of the call.
use Prim.Native.Nat.{◌≤◌, ◌<◌}
use mathlib.Core.Path.{sym, ap, ◌∙◌}
use native.Mathlib.Omega.{arith}
use Rattle.refusal.specs.Outcome.{accepted}
use Rattle.whole.specs.Total.{total_limit}
use Rattle.filter.proofs.Ways.{size_refused, min_refused, max_refused, none_refused}
use Rattle.filter.proofs.passes_static_filters.Goals as goal

pub returns-then-size-gt-TOTAL_LIMIT : goal.returns-then-size-gt-TOTAL_LIMIT
returns-then-size-gt-TOTAL_LIMIT c =
    let h : total_limit < c.args.size = omega arith in
    sym (size_refused _ _ _ _ h)

pub returns-then-is_nan_limit : goal.returns-then-is_nan_limit
returns-then-is_nan_limit c =
    let h : c.args.size ≤ total_limit = omega arith in
    sym (min_refused _ _ _ _ h (sym c.is_nan_limit.ensures ∙ c.if-is_nan_limit.true))

pub returns-then-is_nan_limit-2 : goal.returns-then-is_nan_limit-2
returns-then-is_nan_limit-2 c =
    let h : c.args.size ≤ total_limit = omega arith in
    sym (max_refused _ _ _ _ h (sym c.is_nan_limit-2.ensures ∙ c.if-is_nan_limit-2.true))

pub returns : goal.returns
returns c =
    let h : c.args.size ≤ total_limit = omega arith in
    ap accepted c.passes_within.ensures
    ∙ sym (none_refused _ _ _ _ h
    (sym c.is_nan_limit.ensures ∙ c.if-is_nan_limit.false)
    (sym c.is_nan_limit-2.ensures ∙ c.if-is_nan_limit-2.false))
