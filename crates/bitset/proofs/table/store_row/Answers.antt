-- The copy writes the row's words.
use Prim.Native.Nat.{◌*◌}
use Rattle.std.proofs.Common.{rules}
use Rattle.bitset.specs.Rows.{with_row}
use Rattle.bitset.proofs.Rows.{row_copied}
use Rattle.bitset.proofs.table.store_row.Goals as goal

pub returns : goal.returns
unfolding with_row
returns c =
    let a = c.args in
    row_copied a.table.now (4 * a.i) a.set (search rules) _ c.copy_from_slice.ensures.after c.requires
