-- The invariant: the fewest of the first j blocks are written, and the answer so far is a block.
use Prim.Native.Nat.{ℕ, ◌*◌, ◌-◌, ◌≤◌}
use mathlib.Core.List.{List, map}
use lib.ListN.{length}
use Rattle.lists.specs.Range.{range}
use Rattle.lists.proofs.Front.{Copied}
use Rattle.seeking.specs.Listed.{fewest}
use Rattle.seeking.proofs.words.fill_fewest.Given as goal

-- the fewest of block j
abbrev ofBlock : List ℕ → ℕ → ℕ → ℕ
ofBlock words wanted j = fewest words wanted (16 * j) 16

abbrev pub invariant-loop-j : goal.invariant-loop-j
invariant-loop-j l =
    Copied (map (ofBlock l.words l.wanted) (range 0 (length l.initial.few))) l.initial.few l.few l.j × (l.first ≤ length l.initial.few - 1)
