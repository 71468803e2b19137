-- Each way out is one case of the test: a size above 0 is compared with the threshold, any other does not seek.
use mathlib.Core.Bool.{◌&&◌}
use mathlib.Core.Path.{sym, ap, ◌∙◌}
use lib.Ieee.{lt}
use Rattle.joins.specs.Candidate.{seeking}
use Rattle.joins.proofs.Doubles.{zero_double}
use Rattle.joins.proofs.candidate.Candidate.seeks.Goals as goal

pub returns-then-self : goal.returns-then-self
unfolding seeking
returns-then-self c =
    let a = c.args in
    sym (ap (λ t. t && lt a.self.size a.threshold) (ap (λ z. lt z a.self.size) (sym zero_double) ∙ c.if-self.true))

pub returns-else-self : goal.returns-else-self
unfolding seeking
returns-else-self c =
    let a = c.args in
    c.if-self.false ∙ sym (ap (λ t. t && lt a.self.size a.threshold) (ap (λ z. lt z a.self.size) (sym zero_double) ∙ c.if-self.false))
