-- `sums::names::count_names` meets its contract: of the row's answers those without a name are taken off.
use Prim.Native.Nat.{◌+◌, ◌-◌}
use mathlib.Core.Path.{◌≡◌}
use native.Mathlib.Omega.{arith}
use lib.ListN.{length}
use Rattle.sums.specs.Names.{names_in}
use Rattle.sums.proofs.MetNames.{with_unnamed, names_counted}
use Rattle.sums.proofs.names.count_names.Goals as goal

pub overflow_sub-result : goal.overflow_sub-result
overflow_sub-result c =
    let parts :
    c.count_answers-all.result
    ≡ names_in c.args.row.now (length c.args.seen.now - 2) + (c.met-unnamed.result + c.met-unmatched.result) =
    let a = c.count_answers-all in
    with_unnamed c.args.row.now c.args.seen.now c.args.mark c.requires.unnamed a.ensures c.met-unmatched.result c.met-unnamed.result
    c.met-unmatched.ensures c.met-unnamed.ensures in
    omega (arith, parts)

pub overflow_sub-result-2 : goal.overflow_sub-result-2
overflow_sub-result-2 c =
    let parts :
    c.count_answers-all.result
    ≡ names_in c.args.row.now (length c.args.seen.now - 2) + (c.met-unnamed.result + c.met-unmatched.result) =
    let a = c.count_answers-all in
    with_unnamed c.args.row.now c.args.seen.now c.args.mark c.requires.unnamed a.ensures c.met-unmatched.result c.met-unnamed.result
    c.met-unmatched.ensures c.met-unnamed.ensures in
    omega (arith, parts)

pub returns : goal.returns
returns c =
    let a = c.count_answers-all in
    names_counted c.args.row.now c.args.seen.now c.args.mark c.requires.unnamed a.ensures c.met-unmatched.result c.met-unnamed.result
    c.met-unmatched.ensures c.met-unnamed.ensures
