-- `sets::gathered::mark_blocks` meets its contract: the block of one module more a turn.
use Prim.Native.Nat.{◌≤◌}
use mathlib.Core.List.{map}
use mathlib.Core.Path.{◌≡◌}
use lib.ListN.{length, take}
use Rattle.lists.specs.Stored.{stored}
use Rattle.sets.specs.Gathered.{block_of}
use Rattle.sets.proofs.gathered.mark_blocks.Given as goal

abbrev pub invariant-loop-m : goal.invariant-loop-m
invariant-loop-m l =
    (l.m-index ≤ length l.list) × (l.blocks ≡ stored 1 (take l.m-index (map (block_of l.place) l.list)) l.initial.blocks) × (length l.blocks ≡ length l.initial.blocks)
