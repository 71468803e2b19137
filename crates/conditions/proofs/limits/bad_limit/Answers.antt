-- `conditions::limits::bad_limit` meets its contract: the global options decide first, then the groups.
use mathlib.Core.Path.{sym, ◌∙◌}
use Rattle.grouping.specs.Conditions.{bad_limit}
use Rattle.conditions.proofs.limits.bad_limit.Goals as goal

pub returns-then-nan_options : goal.returns-then-nan_options
unfolding bad_limit
returns-then-nan_options c =
    let e = sym c.nan_options.ensures ∙ c.if-nan_options.true in
    λ b h. rw (h.globals, e)

pub returns : goal.returns
unfolding bad_limit
returns c =
    let e = sym c.nan_options.ensures ∙ c.if-nan_options.false in
    λ b h. rw (h.globals, h.group_tables, h.group_count, e) c.nan_among_groups.ensures
