-- `emitting::members::add_modules_to_chunk` meets its contract. The loop's invariant: the first i modules have the number.
use mathlib.Core.Path.{refl, sym, ap, ◌∙◌}
use native.Mathlib.Omega.{arith}
use lib.ListN.{get_or, set, length-set}
use Rattle.emitting.specs.Emitted.{with_number}
use Rattle.emitting.proofs.OneMore.{number_more}
use Rattle.emitting.proofs.members.add_modules_to_chunk.Goals as goal

pub loop-module-init : goal.loop-module-init
unfolding with_number
loop-module-init c = (refl, omega arith, refl)

pub loop-module-preserved : goal.loop-module-preserved
loop-module-preserved c =
    let a = c.args in
    let l = c.loop-module in (
      ap (λ n. set n (get_or a.members.now l.module-index 0) a.number) l.invariant.0
          ∙ sym (number_more a.members.now a.chunk_of.now a.number l.module-index (omega arith)),
      omega arith,
      simp length-set l.invariant.2,
    )
