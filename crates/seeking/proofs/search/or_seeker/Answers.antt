-- The best stays where one more does not take its place or does not seek.
use mathlib.Core.Path.{sym, ◌∙◌}
use Rattle.joins.specs.Candidate.{seeking}
use Rattle.seeking.proofs.Looking.{stays, passed_over, takes_over}
use Rattle.seeking.proofs.search.or_seeker.Goals as goal

pub returns-then-not-gives_way : goal.returns-then-not-gives_way
returns-then-not-gives_way c =
    let a = c.args in
    stays a.best a.x (sym c.gives_way.ensures ∙ c.if-not-gives_way.true) (seeking a.threshold a.x)

pub returns-then-not-seeks : goal.returns-then-not-seeks
returns-then-not-seeks c =
    let a = c.args in
    passed_over a.best a.x (seeking a.threshold a.x) (sym c.seeks.ensures ∙ c.if-not-seeks.true)

pub returns : goal.returns
returns c =
    let a = c.args in
    takes_over a.best a.x (sym c.gives_way.ensures ∙ c.if-not-gives_way.false) (seeking a.threshold a.x) (sym c.seeks.ensures ∙ c.if-not-seeks.false)
