-- `tested_run::run_tested` meets its contract: the settings of all groups are those of the build, and the build is run under them.
use native.Mathlib.Omega.{arith}
use Rattle.tested_run.proofs.TestedRun.{has_groups, run_fits}
use Rattle.tested_run.proofs.run_tested.Goals as goal

pub all_settings-settings-requires : goal.all_settings-settings-requires
all_settings-settings-requires c = has_groups c.requires.b _ c.requires.fits

pub overflow_cast-on_entry : goal.overflow_cast-on_entry
overflow_cast-on_entry c = omega (arith, c.requires.small)

pub run-requires : goal.run-requires
run-requires c =
    let p = c.requires in
    record {
      b = p.b;
      fits = run_fits p.b _ p.fits c.all_settings-settings.result c.all_settings-settings.ensures;
      small = p.small;
      room = p.room;
    }

pub returns-clause-written : goal.returns-clause-written
returns-clause-written c =
    record {
      of_build = λ b fits.
          c.run.ensures.written.of_build b (run_fits b _ fits c.all_settings-settings.result c.all_settings-settings.ensures);
    }
