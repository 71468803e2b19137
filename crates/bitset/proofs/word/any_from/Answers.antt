-- Each way out by its law: all bits count, none does, or those left after a shift by the distance.
use mathlib.Core.Path.{sym, ◌∙◌}
use borrow.Author.Tests.{le-ltb}
use native.Mathlib.Omega.{arith}
use Rattle.bitset.proofs.Shifts.{any_from_all, any_from_none, any_from_shift}
use Rattle.bitset.proofs.word.any_from.Goals as goal

pub returns-then-from-base : goal.returns-then-from-base
returns-then-from-base c = sym (any_from_all c.args.word c.args.base c.args.from c.ranges.word.fits (omega arith))

pub returns-then-low-lt64 : goal.returns-then-low-lt64
returns-then-low-lt64 c =
    sym (any_from_shift c.args.word c.args.base c.args.from c.ranges.word.fits (omega arith))

pub returns-else-low-lt64 : goal.returns-else-low-lt64
returns-else-low-lt64 c = le-ltb _ _ (omega arith) ∙ sym (any_from_none c.args.word c.args.base c.args.from (omega arith))
