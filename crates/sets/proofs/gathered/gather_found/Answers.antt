-- `sets::gathered::gather_found` meets its contract: with nothing on the list nothing is marked, and with the starts alone what is marked
-- stands at the front of the area.
use mathlib.Core.Path.{sym, ap}
use Rattle.std.proofs.Common.{rules}
use lib.ListN.{length}
use lib.Seq.{length-take-le}
use Rattle.sets.proofs.Leaving.{holds_part}
use Rattle.sets.proofs.Marking.{none_marked}
use Rattle.sets.proofs.gathered.gather_found.Goals as goal

pub returns-then-is_empty : goal.returns-then-is_empty
returns-then-is_empty c =
    let e = none_marked c.requires.0 (search rules) in
    record { number = ap length (sym e); entries = sym e }

pub slice_bounds-keep_marked-end-then-alone : goal.slice_bounds-keep_marked-end-then-alone
slice_bounds-keep_marked-end-then-alone c =
    sym (length-take-le c.args.count c.args.set.now c.requires.1.fits)

pub keep_marked-requires : goal.keep_marked-requires
keep_marked-requires c = c.requires.1.has_mark

pub returns-then-alone : goal.returns-then-alone
returns-then-alone c =
    holds_part _ (c.requires.1.same c.if-alone.true) c.keep_marked.ensures
