-- `testing::content::content_number` meets its contract: 6 and 7, then 8, then 9 and 10.
use mathlib.Core.Path.{sym, ◌∙◌}
use Rattle.std.proofs.lemmas.Result.{err_from_is_err_and}
use Rattle.testing.proofs.ContentLadder.{tree_stops, limit_stops, values_last}
use Rattle.testing.proofs.content.content_number.Goals as goal

pub returns-in_err-tree_number : goal.returns-in_err-tree_number
returns-in_err-tree_number c =
    let p = err_from_is_err_and c.from_residual.result c.from_residual.ensures.1 in
    λ b h. rw (p.1, p.2) (tree_stops b _ (c.in_err-tree_number.ensures b h.sizes_of h.records))

pub returns-then-bad_limit : goal.returns-then-bad_limit
returns-then-bad_limit c =
    λ b h.
    limit_stops b (c.in_ok-tree_number.ensures b h.sizes_of h.records) (sym (c.bad_limit.ensures b h.limits) ∙ c.if-bad_limit.true)

pub returns : goal.returns
returns c =
    λ b h.
    values_last b _ (c.in_ok-tree_number.ensures b h.sizes_of h.records)
    (sym (c.bad_limit.ensures b h.limits) ∙ c.if-bad_limit.false) (c.value_number.ensures b h.entry_bits h.all_answers)
