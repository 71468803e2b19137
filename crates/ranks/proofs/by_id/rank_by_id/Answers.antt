-- `ranks::by_id::rank_by_id` meets its contract: a local area is lent as far as the modules need it.
use Prim.Native.Nat.{ℕ}
use mathlib.Core.List.{List}
use mathlib.Core.Path.{sym}
use native.Mathlib.Omega.{arith}
use lib.ListN.{replicate}
use lib.Seq.{length-take-le}
use Rattle.ranks.proofs.by_id.rank_by_id.Goals as goal

-- a local area
abbrev area : ℕ → List ℕ
area size = replicate size 0

pub slice_bounds-rank_over-end : goal.slice_bounds-rank_over-end
slice_bounds-rank_over-end c = sym (length-take-le _ (area 1024) (omega arith))

pub rank_over-requires : goal.rank_over-requires
rank_over-requires c = record { modules = c.requires; spare_length = sym (length-take-le _ (area 1024) (omega arith)) }

pub slice_bounds-rank_over-end-2 : goal.slice_bounds-rank_over-end-2
slice_bounds-rank_over-end-2 c = sym (length-take-le _ (area 4096) c.requires.few)

pub rank_over-requires-2 : goal.rank_over-requires-2
rank_over-requires-2 c = record { modules = c.requires; spare_length = sym (length-take-le _ (area 4096) c.requires.few) }
