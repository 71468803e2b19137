-- `laid_run::run_laid` meets its contract: the records laid anew are those of a build that has the same chunk list, and else the run is over the
-- build's own.
use mathlib.Core.Logic.{⊎_elim}
use mathlib.Core.Path.{sym}
use native.Mathlib.Omega.{arith}
use lib.Seq.{length-take-le}
use Rattle.laid_run.proofs.RecordsLeft.{few_modules, lay_ready, of_build}
use Rattle.laid_run.proofs.SameList.{relaid_fits, ran_same}
use borrow.Author.Rules.{rules}
use Rattle.laid_run.proofs.run_laid.Goals as goal

pub lay_chains-count-requires : goal.lay_chains-count-requires
lay_chains-count-requires c =
    let p = c.requires.running in
    lay_ready p.b _ _ p.fits _ _ _ c.args.room (search rules) (search rules) (search rules) c.requires.le_room

pub slice_bounds-to_first-end : goal.slice_bounds-to_first-end
slice_bounds-to_first-end c = let p = c.requires.running in omega (arith, few_modules p.b _ _ p.fits)

pub slice_bounds-laid-end : goal.slice_bounds-laid-end
slice_bounds-laid-end c =
    let p = c.requires.running in
    sym (length-take-le c.args.n c.lay_chains-count.new.to_first (omega (arith, few_modules p.b _ _ p.fits)))

pub run-requires-2 : goal.run-requires-2
run-requires-2 c =
    let p = c.requires.running in
    let same =
    of_build p.b _ _ p.fits c.lay_chains-count.new.to_first
    (⊎_elim (λ none. absurd (omega arith)) (λ laid. laid) c.lay_chains-count.ensures.laid) in
    record {
      b = _;
      fits = relaid_fits p.b _ _ _ _ p.fits.tables.passed same _ _ p.fits;
      small = p.small;
      room = p.room;
    }

pub returns-clause-written : goal.returns-clause-written
returns-clause-written c =
    record {
      of_build = λ b fits.
          let same =
          of_build b _ _ fits c.lay_chains-count.new.to_first
          (⊎_elim (λ none. absurd (omega arith)) (λ laid. laid) c.lay_chains-count.ensures.laid) in
          ran_same b _ _ _ _ fits.tables.passed same _ _ _ _
          (c.run-2.ensures.written.of_build _ (relaid_fits b _ _ _ _ fits.tables.passed same _ _ fits));
    }
