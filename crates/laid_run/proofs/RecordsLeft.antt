-- What the tests leave of a build's dependency records, said of the tables that a run is handed.
use Prim.Native.Nat.{ℕ, ◌+◌, ◌-◌, ◌≤◌}
use mathlib.Core.Bool.{false}
use mathlib.Core.List.{List}
use mathlib.Core.Path.{◌≡◌, ap, ◌∙◌}
use native.Mathlib.Omega.{arith}
use lib.ListN.{length, take}
use Rattle.records.specs.Bad.{RecordTables, bad_records}
use Rattle.contiguous.specs.Laid.{LayAllReady, SameDependencies}
use Rattle.grouping.specs.Given.{Given}
use Rattle.grouping.specs.Conditions.{bad_dependency}
use Rattle.conditions.proofs.CountsLeft.{counts_passed}
use Rattle.conditions.proofs.TablesLeft.{tables_passed}
use Rattle.run.specs.Fits.{RunTables, RunFits}

module _ (b : Given) (t : RunTables) (on_entry : ℕ) (fits : RunFits b t on_entry) where
  tables : RecordTables b.shared.first b.shared.dependency b.shared.next b.shared.n b.shared.d
  tables =
      let counts = counts_passed b fits.tables.passed.counts in
      (tables_passed b fits.tables.passed.tables).records counts.modules counts.records

  good : bad_records b.shared.first b.shared.dependency b.shared.next b.shared.n b.shared.d ≡ false
  unfolding bad_dependency
  good = fits.tables.passed.records

  firsts : length t.walking.first ≡ b.shared.n
  firsts = ap length fits.tables.first ∙ tables.firsts

  nexts : length t.walking.next ≡ b.shared.d + 1
  nexts = ap length fits.tables.next ∙ tables.nexts

  last : length t.walking.next - 1 ≡ b.shared.d
  last = omega (arith, nexts)

  pub few_modules : t.n ≤ 4096
  few_modules = omega (arith, fits.tables.modules, tables.few_modules)

  pub few_records : (1 ≤ length t.walking.next) × (length t.walking.next ≤ 65536)
  few_records = (omega (arith, nexts), omega (arith, nexts, tables.few))

  -- its records can be laid anew in tables of these sizes
  pub lay_ready : (first dependency next : List ℕ) (room : ℕ) → length first ≡ 4096 → length dependency ≡ 65536 → length next ≡ 65536
      → (1 ≤ room) × (room ≤ 65536)
      → LayAllReady t.walking.first t.walking.dependency t.walking.next (length t.walking.first) (length t.walking.next - 1)
      first dependency next room
  lay_ready first dependency next room p q r h =
      rw (firsts, last, fits.tables.first, fits.tables.dependency, fits.tables.next)
      (record {
        tables = tables;
        good = good;
        firsts = omega (arith, p, tables.few_modules);
        modules = omega (arith, q, h.1);
        nexts = omega (arith, r, h.1);
        some = h.0;
        few = h.1;
      })

  -- and those laid are the build's
  pub of_build : (first : List ℕ) {dependency next : List ℕ} {d : ℕ}
      → SameDependencies t.walking.first t.walking.dependency t.walking.next (length t.walking.first) (length t.walking.next - 1)
      (take (length t.walking.first) first) dependency next d
      → SameDependencies b.shared.first b.shared.dependency b.shared.next b.shared.n b.shared.d (take t.n first) dependency next d
  of_build first same =
      rw fits.tables.modules (rw (firsts, last, fits.tables.first, fits.tables.dependency, fits.tables.next) at same)
