-- The invariant: the best so far is the first seeker of the heads that were looked at.
use mathlib.Core.Path.{ap, ◌∙◌}
use native.Mathlib.Omega.{arith}
use Rattle.joins.specs.Candidate.{seeking, comes_first, seeker_at}
use Rattle.joins.specs.declared.candidate.Candidate.{Candidate}
use Rattle.seeking.specs.Search.{found_of, looked}
use Rattle.seeking.proofs.Searching.{search_kept_none, search_kept_more}
use Rattle.seeking.proofs.search.find_seeker.Goals as goal

pub loop-head-init : goal.loop-head-init
loop-head-init c =
    let a = c.args in search_kept_none (seeker_at a.sizes.now) comes_first a.heads.now (seeking a.threshold)

pub seeker_at-requires : goal.seeker_at-requires
seeker_at-requires c = (c.requires.exact, c.requires.inside c.loop-head.head-index (omega arith))

pub loop-head-preserved : goal.loop-head-preserved
loop-head-preserved c =
    let l = c.loop-head in
    let a = c.args in
    search_kept_more (seeker_at a.sizes.now) comes_first a.heads.now (seeking a.threshold) l.head-index (omega arith)
    (found_of l.best) (found_of c.or_seeker-best.result) l.invariant
    (c.or_seeker-best.ensures ∙ ap (λ (x : Candidate). looked comes_first (seeking a.threshold x) (found_of l.best) x) c.seeker_at.ensures)
