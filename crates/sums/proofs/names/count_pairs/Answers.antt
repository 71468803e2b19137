-- `sums::names::count_pairs` meets its contract: the bytes are clear, so the rows are counted, and they are those of the build.
use Prim.Native.Nat.{◌+◌}
use mathlib.Core.Path.{sym}
use native.Mathlib.Omega.{arith}
use Rattle.sums.proofs.PairCount.{clear_length, clear_rows, pairs_counted}
use Rattle.sums.proofs.names.count_pairs.Goals as goal

pub slice_bounds-count_rows-end : goal.slice_bounds-count_rows-end
slice_bounds-count_rows-end c = sym (clear_length (c.args.k + 2) 4096 (omega (arith, c.requires.names)))

pub count_rows-requires : goal.count_rows-requires
count_rows-requires c =
    clear_rows c.args.answers.now c.args.n c.args.g c.args.k 4096 (omega (arith, c.requires.names)) c.requires

pub returns-then-bytes-le4096 : goal.returns-then-bytes-le4096
returns-then-bytes-le4096 c =
    pairs_counted c.args.answers.now c.args.n c.args.g c.args.k 4096 c.count_rows.result (omega (
      arith,
      c.requires.names,
    )) c.requires.whole c.count_rows.ensures

pub slice_bounds-count_rows-end-2 : goal.slice_bounds-count_rows-end-2
slice_bounds-count_rows-end-2 c = sym (clear_length (c.args.k + 2) 65537 (omega (arith, c.requires.names)))

pub count_rows-requires-2 : goal.count_rows-requires-2
count_rows-requires-2 c =
    clear_rows c.args.answers.now c.args.n c.args.g c.args.k 65537 (omega (arith, c.requires.names)) c.requires

pub returns : goal.returns
returns c =
    pairs_counted c.args.answers.now c.args.n c.args.g c.args.k 65537 c.count_rows-2.result (omega (
      arith,
      c.requires.names,
    )) c.requires.whole c.count_rows-2.ensures
