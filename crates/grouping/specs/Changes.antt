-- What is handed to a call with one thing changed. Counts and tables are named by numbers, so that a list can range over them.
use Rattle.std.specs.Prelude.{ℕ, List, Float, Option}
use Rattle.options.specs.Tables.{GroupTables}
use Rattle.grouping.specs.Given.{Shared, Given, Areas}

-- what is handed in and the lent areas
pub record Handed : Type 0 where
  pub given : Given
  pub areas : Areas

-- the numbers of counts: N, E, K, D, G and the count on entry
abbrev pub module_count : ℕ
module_count = 0

abbrev pub entry_count : ℕ
entry_count = 1

abbrev pub name_count : ℕ
name_count = 2

abbrev pub record_count : ℕ
record_count = 3

abbrev pub group_count : ℕ
group_count = 4

abbrev pub on_entry : ℕ
on_entry = 5

-- the numbers of tables of numbers: those whose length is implied by counts are 0 to 14, output areas are 16 to 22
abbrev pub sizes : ℕ
sizes = 0

abbrev pub orders : ℕ
orders = 1

abbrev pub bits : ℕ
bits = 4

abbrev pub offsets : ℕ
offsets = 5

abbrev pub firsts : ℕ
firsts = 6

abbrev pub modules : ℕ
modules = 7

abbrev pub nexts : ℕ
nexts = 8

abbrev pub flags : ℕ
flags = 9

abbrev pub answers : ℕ
answers = 14

abbrev pub bytes : ℕ
bytes = 15

abbrev pub scratch : ℕ
scratch = 23

-- the number of a table of doubles: the groups' limits are 0 to 3, the sizes of chunks 5
abbrev pub thresholds : ℕ
thresholds = 4

-- what becomes of each count, table of numbers, table of doubles and global limit, by its number
pub record Changes : Type 0 where
  pub count : ℕ → ℕ → ℕ
  pub numbers : ℕ → List ℕ → List ℕ
  pub doubles : ℕ → List Float → List Float
  pub limit : ℕ → Option Float → Option Float

unfoldable pub shared_with : Changes → Shared → Shared
shared_with c s =
    record {
      n = c.count module_count s.n;
      e = c.count entry_count s.e;
      k = c.count name_count s.k;
      d = c.count record_count s.d;
      sizes = c.numbers sizes s.sizes;
      orders = c.numbers orders s.orders;
      shares = c.numbers 2 s.shares;
      tags = c.numbers 3 s.tags;
      bits = c.numbers bits s.bits;
      bytes = c.numbers bytes s.bytes;
      offsets = c.numbers offsets s.offsets;
      first = c.numbers firsts s.first;
      dependency = c.numbers modules s.dependency;
      next = c.numbers nexts s.next;
      options =
          record {
            min_size = c.limit 0 s.options.min_size;
            max_size = c.limit 1 s.options.max_size;
            min_module_size = c.limit 2 s.options.min_module_size;
            max_module_size = c.limit 3 s.options.max_module_size;
            min_share_count = s.options.min_share_count;
            recursion = s.options.recursion;
          };
    }

unfoldable pub groups_with : Changes → GroupTables → GroupTables
groups_with c t =
    record {
      given = c.numbers 10 t.given;
      min_size = c.doubles 0 t.min_size;
      max_size = c.doubles 1 t.max_size;
      min_module_size = c.doubles 2 t.min_module_size;
      max_module_size = c.doubles 3 t.max_module_size;
      min_share_count = c.numbers 11 t.min_share_count;
      tags = c.numbers 12 t.tags;
      priority = c.numbers 13 t.priority;
      threshold = c.doubles thresholds t.threshold;
    }

unfoldable pub given_with : Changes → Given → Given
unfolding shared_with groups_with
given_with c b =
    let v = b.variant in
    record {
      shared = shared_with c b.shared;
      variant =
          record {
            flags = c.numbers flags v.flags;
            g = c.count group_count v.g;
            groups = groups_with c v.groups;
            answers = c.numbers answers v.answers;
          };
      on_entry = c.count on_entry b.on_entry;
    }

unfoldable pub areas_with : Changes → Areas → Areas
areas_with c a =
    record {
      modules = record { chunk_of = c.numbers 16 a.modules.chunk_of; next_of = c.numbers 17 a.modules.next_of };
      records =
          record {
            first_of = c.numbers 18 a.records.first_of;
            group_of = c.numbers 19 a.records.group_of;
            name_of = c.numbers 20 a.records.name_of;
            size_of = c.doubles 5 a.records.size_of;
            bits_of = c.numbers 21 a.records.bits_of;
            mark_of = c.numbers 22 a.records.mark_of;
          };
      scratch = c.numbers scratch a.scratch;
    }

unfoldable pub changed : Changes → Handed → Handed
unfolding given_with areas_with
changed c h = record { given = given_with c h.given; areas = areas_with c h.areas }
