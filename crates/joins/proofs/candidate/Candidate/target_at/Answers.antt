-- The size and the set are those of the row.
use Prim.Native.Nat.{ℕ}
use mathlib.Core.Path.{ap, ap₂, ◌∙◌}
use lib.Ieee.{Float}
use Rattle.bitset.specs.Entries.{differing}
use Rattle.joins.specs.Candidate.{target_at}
use Rattle.joins.specs.declared.candidate.Candidate.{Candidate}
use Rattle.joins.proofs.candidate.Candidate.target_at.Goals as goal

pub returns : goal.returns
unfolding target_at
returns c =
    let a = c.args in
    ap₂ {C = Candidate} (λ (c : Float) (n : ℕ). record { number = a.i; size = c; distance = n }) c.size_at.ensures
    (c.symmetric_difference_count.ensures ∙ ap (differing a.wanted) c.row.ensures)
