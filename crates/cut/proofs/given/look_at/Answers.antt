-- `cut::given::look_at` meets its contract: a cut that is not allowed is passed over, and any other is compared with the best.
use Prim.Native.Nat.{ℕ}
use mathlib.Core.Path.{sym, ap, ◌∙◌}
use Rattle.cut.specs.Candidate.{allowed}
use Rattle.cut.specs.Scan.{replaced}
use Rattle.cut.proofs.Looking.{not_allowed_lem, is_allowed}
use Rattle.cut.proofs.given.look_at.Goals as goal

pub returns-then-not-both_reach : goal.returns-then-not-both_reach
unfolding allowed
returns-then-not-both_reach c = sym (not_allowed_lem _ _ _ (sym c.both_reach.ensures ∙ c.if-not-both_reach.true))

pub returns : goal.returns
unfolding allowed
returns c =
    let a = c.args in
    c.or_better.ensures
    ∙ ap (λ (n : ℕ). replaced a.bounds.maximum a.best (record { index = a.i; similarity = n; left = a.left; right = a.right }))
    c.similarity_between-similarity.ensures
    ∙ sym (is_allowed _ _ _ (sym c.both_reach.ensures ∙ c.if-not-both_reach.false))
