-- `subgroups::processing::process_entries_aware_group` meets its contract: the stages are run in tables that have room for every set.
use Rattle.std.proofs.Common.{◌≤◌, length, sym, length-take-le}
use Rattle.subgroups.proofs.processing.process_entries_aware_group.Goals as goal

pub slice_bounds-run_stages-end : goal.slice_bounds-run_stages-end
slice_bounds-run_stages-end c =
    let few : length c.args.set.now ≤ 4096 =
    c.requires.0.count in
    sym (length-take-le _ _ (few))

pub run_stages-requires : goal.run_stages-requires
run_stages-requires c =
    let few : length c.args.set.now ≤ 4096 =
    c.requires.0.count in
    let n = few in
    (c.requires.0, record { numbers = length-take-le _ _ n; sizes = n; rows = c.requires.1.row_each }, n, c.requires.1.order_fits, c.requires.2)
