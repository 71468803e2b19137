-- `options::tables::group_at` meets its contract: each field is a read of its table or what its call ensures.
use Rattle.options.proofs.GroupRead.{group_read_lem}
use Rattle.options.proofs.tables.group_at.Goals as goal

pub returns : goal.returns
returns c =
    rw (c.options_by.ensures, c.test_bit.ensures)
    (group_read_lem _ c.args.g c.requires)
