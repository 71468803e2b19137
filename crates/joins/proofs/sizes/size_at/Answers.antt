-- A size of at most 2^53 is an i64, and a double holds it.
use mathlib.Core.Path.{ap}
use lib.Ieee.{binary64, of_int}
use lib.ListN.{get_or}
use Rattle.joins.proofs.Doubles.{signed_held, as_signed}
use Rattle.joins.proofs.sizes.size_at.Goals as goal

pub int_to_float-result : goal.int_to_float-result
int_to_float-result c = signed_held (get_or c.args.sizes.now c.args.i 0) c.requires.i_bound

pub returns : goal.returns
returns c = ap (of_int binary64) (as_signed (get_or c.args.sizes.now c.args.i 0) c.requires.i_bound)
