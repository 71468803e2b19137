-- What the run of a tested build asks, from what the tests left of it.
use Prim.Native.Nat.{◌≤◌}
use mathlib.Core.List.{List}
use mathlib.Core.Path.{◌≡◌, sym, ap, ◌∙◌, subst₂}
use native.Mathlib.Omega.{arith}
use Rattle.options.specs.declared.Settings.{Settings}
use Rattle.options.specs.Force.{settings_under}
use Rattle.options.specs.Tables.{group_at}
use Rattle.grouping.specs.Given.{Given}
use Rattle.grouping.specs.Settings.{settings_of}
use Rattle.conditions.specs.HandsIn.{HasGroups}
use Rattle.conditions.proofs.CountsLeft.{counts_passed}
use Rattle.conditions.proofs.TablesLeft.{tables_passed}
use Rattle.turns.specs.Order.{AreSettings}
use Rattle.run.specs.Fits.{RunTables, RunFits}
use Rattle.tested_run.specs.RunInput.{RunInput, InputFits}

-- the tables of a run: the input, with the settings of its groups
abbrev pub run_of : RunInput → List Settings → RunTables
run_of t settings =
    record {
      settings = settings;
      g = t.g;
      asked = record { answers = t.answers; tags = t.tags; shares = t.shares };
      n = t.n;
      tables = record { bytes = t.bytes; offsets = t.offsets; sizes = t.sizes; rank = t.rank };
      bits = t.bits;
      walking = record { flags = t.flags; first = t.first; dependency = t.dependency; next = t.next; order = t.by_order };
    }

module _ (b : Given) (t : RunInput) (fits : InputFits b t) where
  group_count : t.g ≡ b.variant.g
  group_count = ap (λ (x : RunInput). x.g) fits.handed

  group_tables : t.groups ≡ b.variant.groups
  group_tables = ap (λ (x : RunInput). x.groups) fits.handed

  pub has_groups : HasGroups t.groups t.g × (t.g ≤ 64)
  has_groups =
      let few = (counts_passed b fits.passed.counts).groups in
      (subst₂ HasGroups (sym group_tables) (sym group_count) (tables_passed b fits.passed.tables).groups, omega (arith, group_count))

  module _ (settings : List Settings) (are : AreSettings settings t.g (λ i. settings_under t.options (group_at t.groups i))) where
    settings_are : AreSettings settings b.variant.g (settings_of b)
    unfolding settings_of
    settings_are i other h =
        are i other (omega (arith, group_count))
        ∙ ap (λ (x : RunInput). settings_under x.options (group_at x.groups i)) fits.handed

    pub run_fits : RunFits b (run_of t settings) t.on_entry
    run_fits =
        let e = fits.handed in
        record {
          tables =
              record {
                passed = fits.passed;
                entry = ap (λ (x : RunInput). x.on_entry) e;
                groups = group_count;
                settings_are = settings_are;
                answers = ap (λ (x : RunInput). x.answers) e;
                tags = ap (λ (x : RunInput). x.tags) e;
                shares = ap (λ (x : RunInput). x.shares) e;
                modules = ap (λ (x : RunInput). x.n) e;
                bytes = ap (λ (x : RunInput). x.bytes) e;
                offsets = ap (λ (x : RunInput). x.offsets) e;
                sizes = ap (λ (x : RunInput). x.sizes) e;
                ranks = fits.ranks;
                words = ap (λ (x : RunInput). x.bits) e;
                flags = ap (λ (x : RunInput). x.flags) e;
                first = ap (λ (x : RunInput). x.first) e;
                dependency = ap (λ (x : RunInput). x.dependency) e;
                next = ap (λ (x : RunInput). x.next) e;
              };
          order = fits.order;
        }
