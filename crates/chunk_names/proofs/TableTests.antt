-- Refusals 1, 2 and 3 over the two tables of names, one after another, and what tables that pass are.
use Prim.Native.Nat.{◌+◌, ◌≤◌, ◌<◌}
use mathlib.Core.Bool.{true, false, ◌||◌, or-true}
use mathlib.Core.Path.{◌≡◌}
use native.Mathlib.Omega.{arith}
use borrow.Author.Tests.{lt-ltb, le-ltb, eq-eqb, ne_eqb, ltb-false}
use lib.Dec.{ltb}
use lib.ListN.{length}
use Rattle.lists.proofs.Below.{neither}
use Rattle.refusal.specs.Counts.{name_limit, entry_limit, bad_length}
use Rattle.refusal.specs.Outcome.{first_number}
use Rattle.refusal.proofs.Ladder.{none_applies, applies, passes, number, no_number, left}
use Rattle.refusal.proofs.Lengths.{right_length, first_length}
use Rattle.name_tables.specs.Names.{bad_names, NameTable}
use Rattle.chunk_names.specs.Given.{Names}
use Rattle.chunk_names.specs.Conditions.{table_tests}
use Rattle.chunk_names.specs.Tables.{EntryTable}

-- tables that pass 1
pub record Counted (t : Names) : Type 0 where
  pub few_names : t.k ≤ name_limit
  pub few_entries : t.e ≤ entry_limit

-- and 2
pub record Measured (t : Names) : Type 0 where
  pub counted : Counted t
  pub all_groups_lem : length t.group_offsets ≡ t.k + 1
  pub all_entries : length t.entry_offsets ≡ t.e + 1

-- and 3
pub record Passed (t : Names) : Type 0 where
  pub groups : NameTable t.k t.group_names t.group_offsets
  pub entries : EntryTable t.e t.entry_names t.entry_offsets

module _ (t : Names) where
  pub too_many_names : name_limit < t.k → 1 ≡ first_number (table_tests t)
  unfolding table_tests
  too_many_names h = number (applies (rw (lt-ltb name_limit t.k h)))

  pub too_many_entries : entry_limit < t.e → 1 ≡ first_number (table_tests t)
  unfolding table_tests
  too_many_entries h = number (applies (rw (lt-ltb entry_limit t.e h, or-true)))

  module _ (c : Counted t) where
    counts_pass : (ltb name_limit t.k || ltb entry_limit t.e) ≡ false
    counts_pass = rw (le-ltb name_limit t.k c.few_names, le-ltb entry_limit t.e c.few_entries)

    pub groups_missing : (length t.group_offsets ≡ t.k + 1 → ⊥) → 2 ≡ first_number (table_tests t)
    unfolding table_tests
    groups_missing h = number (passes counts_pass (applies (rw (ne_eqb (length t.group_offsets) (t.k + 1) h))))

    pub entries_missing : (length t.entry_offsets ≡ t.e + 1 → ⊥) → 2 ≡ first_number (table_tests t)
    unfolding table_tests
    entries_missing h = number (passes counts_pass (applies (rw (ne_eqb (length t.entry_offsets) (t.e + 1) h, or-true))))

  module _ (m : Measured t) where
    lengths_pass : (bad_length t.group_offsets (t.k + 1) || bad_length t.entry_offsets (t.e + 1)) ≡ false
    lengths_pass = rw (eq-eqb (length t.group_offsets) (t.k + 1) m.all_groups_lem, eq-eqb (length t.entry_offsets) (t.e + 1) m.all_entries)

    pub groups_bad : bad_names t.group_names t.group_offsets ≡ true → 3 ≡ first_number (table_tests t)
    unfolding table_tests
    groups_bad h = number (passes (counts_pass m.counted) (passes lengths_pass (applies (rw h))))

    pub entries_bad : bad_names t.entry_names t.entry_offsets ≡ true → 3 ≡ first_number (table_tests t)
    unfolding table_tests
    entries_bad h = number (passes (counts_pass m.counted) (passes lengths_pass (applies (rw (h, or-true)))))

    pub none_bad : bad_names t.group_names t.group_offsets ≡ false → bad_names t.entry_names t.entry_offsets ≡ false
        → 0 ≡ first_number (table_tests t)
    unfolding table_tests
    none_bad g e = no_number (passes (counts_pass m.counted) (passes lengths_pass (passes (rw (g, e)) none_applies)))

  -- no number: the tables are what the rest of the call needs
  pub passed : 0 ≡ first_number (table_tests t) → Passed t
  unfolding table_tests
  passed e =
      let counts = left 1 _ _ (omega arith) e in
      let lengths = left 2 _ _ (omega arith) counts.1 in
      let offsets = left 3 _ _ (omega arith) lengths.1 in
      let few = neither (ltb name_limit t.k) (ltb entry_limit t.e) counts.0 in
      let long = first_length (length t.group_offsets) (t.k + 1) _ lengths.0 in
      let good = neither (bad_names t.group_names t.group_offsets) (bad_names t.entry_names t.entry_offsets) offsets.0 in
      record {
        groups = record { all_offsets = long.0; good = good.0 };
        entries = record {
          few = ltb-false entry_limit t.e few.1;
          table = record { all_offsets = right_length (length t.entry_offsets) (t.e + 1) long.1; good = good.1 };
        };
      }
