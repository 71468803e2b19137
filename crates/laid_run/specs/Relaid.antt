-- A build with other dependency records, and the tables of its run.
use Rattle.std.specs.Prelude.{ℕ, List}
use Rattle.grouping.specs.Given.{Given}
use Rattle.run.specs.Fits.{RunTables}

-- the build with d records of these tables, and all else as it was
abbrev pub with_records : Given → List ℕ → List ℕ → List ℕ → ℕ → Given
with_records b first dependency next d =
    let s = b.shared in
    record {
      shared = record {
        n = s.n;
        e = s.e;
        k = s.k;
        d = d;
        sizes = s.sizes;
        orders = s.orders;
        shares = s.shares;
        tags = s.tags;
        bits = s.bits;
        bytes = s.bytes;
        offsets = s.offsets;
        first = first;
        dependency = dependency;
        next = next;
        options = s.options;
      };
      variant = b.variant;
      on_entry = b.on_entry;
    }

-- the tables of a run with these records
abbrev pub tables_with : RunTables → List ℕ → List ℕ → List ℕ → RunTables
tables_with t first dependency next =
    record {
      settings = t.settings;
      g = t.g;
      asked = t.asked;
      n = t.n;
      tables = t.tables;
      bits = t.bits;
      walking = record {
        flags = t.walking.flags;
        first = first;
        dependency = dependency;
        next = next;
        order = t.walking.order;
      };
    }
