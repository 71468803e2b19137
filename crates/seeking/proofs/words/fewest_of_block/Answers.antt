-- The invariant: the fewest so far is that of the first i words of the block.
use Prim.Native.Nat.{suc, ◌+◌}
use mathlib.Core.Path.{◌≡◌, refl, ap, ◌∙◌}
use native.Mathlib.Omega.{arith}
use lib.ListN.{get_or}
use Rattle.joins.specs.Candidate.{ones_apart}
use Rattle.seeking.specs.Listed.{fewer, fewest}
use Rattle.seeking.proofs.Beside.{min_fewer}
use Rattle.seeking.proofs.words.fewest_of_block.Goals as goal

pub loop-i-init : goal.loop-i-init
unfolding fewest
loop-i-init c = (omega arith, refl)

pub loop-i-preserved : goal.loop-i-preserved
unfolding fewest
loop-i-preserved c =
    let l = c.loop-i in
    let a = c.args in
    let here = ones_apart a.wanted (get_or a.words.now (a.from + l.i) 0) in
    let next : suc l.i ≡ l.i + 1 = omega arith in (
      omega arith,
      c.min-least.ensures
          ∙ min_fewer here l.least
          ∙ ap (fewer here) l.invariant.1
          ∙ ap (fewest a.words.now a.wanted a.from) next,
    )
