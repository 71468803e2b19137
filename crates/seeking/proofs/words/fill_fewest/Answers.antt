-- The invariant: the fewest of the first j blocks are written, and the answer so far is a block.
use Prim.Native.Nat.{ℕ, ◌*◌, ◌-◌, ◌≤◌}
use mathlib.Core.List.{List}
use mathlib.Core.Path.{refl, sym, ◌∙◌}
use native.Mathlib.Omega.{arith}
use lib.ListN.{length}
use Rattle.lists.proofs.Front.{none_placed, one_written, all_copied}
use Rattle.lists.proofs.Map.{get_or_map_range}
use Rattle.seeking.specs.Listed.{fewest, fewest_of_blocks}
use Rattle.seeking.proofs.Beside.{fewest_small}
use Rattle.seeking.proofs.words.fill_fewest.Goals as goal
use Rattle.seeking.proofs.words.fill_fewest.Goals.{then-here-least, else-here-least}

-- the fewest of block j
abbrev ofBlock : List ℕ → ℕ → ℕ → ℕ
ofBlock words wanted j = fewest words wanted (16 * j) 16

pub loop-j-init : goal.loop-j-init
loop-j-init c =
    let a = c.args in
    (none_placed (ofBlock a.words.now a.wanted) (length a.few.now) a.few.now refl, omega arith)

pub overflow_cast-fewest : goal.overflow_cast-fewest
overflow_cast-fewest c =
    let a = c.args in
    omega (arith, c.fewest_of_block-here.ensures, fewest_small a.words.now a.wanted (16 * c.loop-j.j) 16)

pub loop-j-preserved : goal.loop-j-preserved
loop-j-preserved c =
    let l = c.loop-j in
    let a = c.args in
    let long = l.invariant.0.same_length in
    let inside : l.j ≤ length a.few.now - 1 = omega (arith, long) in (
      one_written 0 _ _ _ _ l.invariant.0 (omega arith) _
          (c.fewest_of_block-here.ensures
          ∙ sym (get_or_map_range (ofBlock a.words.now a.wanted) (length a.few.now) l.j 0 (omega (arith, long)))),
      elim c.if-here-least.branch [
        | then-here-least w ↦ omega (arith, inside, w.first-is)
        | else-here-least w ↦ omega (arith, l.invariant.1, w.first-is)
      ],
    )

pub returns : goal.returns
unfolding fewest_of_blocks
returns c =
    let l = c.loop-j in (all_copied _ _ _ _ l.invariant.0 (omega arith), l.invariant.1)
