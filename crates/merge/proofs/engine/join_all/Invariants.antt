-- The invariant: from the present state the turns left give what all turns give from the start, the list has as many numbers as turns are left, the
-- first words stand beside it, and the heads stand for their blocks.
use Prim.Native.Nat.{◌≤◌}
use mathlib.Core.Path.{◌≡◌}
use lib.ListN.{length, take}
use Rattle.seeking.specs.Listed.{FirstWords}
use Rattle.seeking.specs.Seekers.{Heads}
use Rattle.merge.specs.Merge.{merge_steps}
use Rattle.merge.specs.Engine.{listed, state_of, Sound}
use Rattle.merge.proofs.engine.join_all.Given as goal

abbrev pub invariant-loop-left : goal.invariant-loop-left
invariant-loop-left l =
    Sound l.numbers l.sizes l.bits
    × (merge_steps l.left l.threshold (state_of l.numbers l.sizes l.bits) ≡ merge_steps (length l.initial.numbers) l.threshold (state_of l.initial.numbers l.initial.sizes l.initial.bits))
    × (l.left ≤ length l.there)
    × (take l.left l.there ≡ listed l.numbers)
    × Heads l.threshold l.sizes l.heads
    × FirstWords (listed l.numbers) l.words l.bits
    × (length l.numbers ≡ length l.initial.numbers)
    × (length l.sizes ≡ length l.initial.sizes)
    × (length l.bits ≡ length l.initial.bits)
    × (length l.there ≡ length l.initial.there)
    × (length l.words ≡ length l.there)
    × (length l.heads ≡ length l.initial.heads)
