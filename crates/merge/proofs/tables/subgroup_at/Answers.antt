-- The size is what `size_at` ensures, and the bits are what `row` ensures.
use mathlib.Core.Path.{ap₂}
use lib.Ieee.{Float}
use Rattle.bitset.specs.declared.entries.BitSet.{BitSet}
use Rattle.joins.specs.Subgroup.{Subgroup}
use Rattle.merge.specs.Tables.{subgroup_at}
use Rattle.merge.proofs.tables.subgroup_at.Goals as goal

pub returns : goal.returns
unfolding subgroup_at
returns c =
    let a = c.args in
    ap₂ {C = Subgroup} (λ (x : Float) (b : BitSet). record { number = a.i; size = x; bits = b }) c.size_at.ensures c.row.ensures
