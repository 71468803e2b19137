-- `chunk_names::name::write_shortened` meets its contract: what is kept, a separator and the hash, one behind the other.
use mathlib.Core.Path.{sym}
use native.Mathlib.Omega.{arith}
use lib.Seq.{length-take-le}
use Rattle.utf8.proofs.Starts.{start_back_le}
use Rattle.chunk_names.proofs.FrontOfName.{kept_shortened}
use Rattle.chunk_names.proofs.Appending.{appended_both, appended_as, mid_within}
use Rattle.chunk_names.proofs.name.write_shortened.Goals as goal

pub slice_bounds-append-end : goal.slice_bounds-append-end
slice_bounds-append-end c =
    let a = c.args in
    let cut = start_back_le a.front.now 91 in
    sym (length-take-le c.start_back-cut.result a.front.now (omega (arith, cut, c.start_back-cut.ensures, c.requires)))

pub append-behind-requires : goal.append-behind-requires
append-behind-requires c = mid_within (omega arith) c.append-kept.ensures

pub append-requires : goal.append-requires
append-requires c = mid_within (mid_within (omega arith) c.append-kept.ensures) c.append-behind.ensures

pub returns : goal.returns
returns c =
    let a = c.args in
    let first = c.append-kept.ensures in
    let kept = appended_both (omega arith) first c.append-behind.ensures in
    let whole = appended_both (omega arith) kept c.append.ensures in
    appended_as (kept_shortened a.front.now a.hash.now c.start_back-cut.result c.start_back-cut.ensures) whole
