-- The four reads are the four words of the row.
use Rattle.bitset.proofs.Words.{row_reads}
use Rattle.bitset.proofs.table.row.Goals as goal

pub returns : goal.returns
returns c = row_reads c.args.table.now c.args.k c.requires
