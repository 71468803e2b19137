-- `laid_run::run_side_by_side` meets its contract: whichever way is taken, the run has the same one.
use native.Mathlib.Omega.{arith}
use Rattle.laid_run.proofs.RecordsLeft.{few_records}
use Rattle.laid_run.proofs.run_side_by_side.Goals as goal

pub worth_laying-requires : goal.worth_laying-requires
worth_laying-requires c = few_records c.requires.b _ _ c.requires.fits

pub run_laid-requires : goal.run_laid-requires
run_laid-requires c = record { le_room = few_records c.requires.b _ _ c.requires.fits; running = c.requires }

pub run_laid-requires-2 : goal.run_laid-requires-2
run_laid-requires-2 c = record { le_room = (omega arith, omega arith); running = c.requires }
