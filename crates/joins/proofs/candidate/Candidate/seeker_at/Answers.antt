-- The size is that of the row.
use mathlib.Core.Path.{ap}
use lib.Ieee.{Float}
use Rattle.joins.specs.Candidate.{seeker_at}
use Rattle.joins.specs.declared.candidate.Candidate.{Candidate}
use Rattle.joins.proofs.candidate.Candidate.seeker_at.Goals as goal

pub size_at-requires : goal.size_at-requires
size_at-requires c = record { i_in_bounds = c.requires.1; i_bound = c.requires.0 c.args.i c.requires.1 }

pub returns : goal.returns
unfolding seeker_at
returns c = ap {B = Candidate} (λ (z : Float). record { number = c.args.i; size = z; distance = 0 }) c.size_at.ensures
