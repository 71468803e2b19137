-- A condition speaks of a whole build, and the function that tests it takes the counts, tables or lengths that it reads. Here is what a build
-- hands in of those.
use Rattle.std.specs.Prelude.{ℕ, ◌≤◌, ◌<◌, List, ◌≡◌, length}
use Rattle.refusal.specs.Counts.{module_limit, group_limit, record_limit}
use Rattle.options.specs.declared.Options.{Options}
use Rattle.options.specs.Tables.{GroupTables, HasGroup}
use Rattle.grouping.specs.Given.{Given, Areas}
use Rattle.conditions.specs.declared.ModuleLengths.{ModuleLengths}
use Rattle.conditions.specs.declared.RecordLengths.{RecordLengths}
use Rattle.conditions.specs.declared.GroupLengths.{GroupLengths}
use Rattle.conditions.specs.declared.AreaLengths.{AreaLengths}

-- the counts of modules, groups, entries, names and dependency records
pub record HandsCounts (b : Given) (n g e k d : ℕ) : Type 0 where
  pub modules : b.shared.n ≡ n
  pub groups : b.variant.g ≡ g
  pub entries : b.shared.e ≡ e
  pub names : b.shared.k ≡ k
  pub records : b.shared.d ≡ d

-- counts that refusal 1 leaves
pub record CountsWithin (n g d : ℕ) : Type 0 where
  pub modules : n ≤ module_limit
  pub groups : g ≤ group_limit
  pub records : d ≤ record_limit

-- ---- lengths

abbrev pub module_lengths : Given → ModuleLengths
module_lengths b =
    let s = b.shared in
    record {
      flags = length b.variant.flags;
      sizes = length s.sizes;
      orders = length s.orders;
      shares = length s.shares;
      tags = length s.tags;
      bits = length s.bits;
    }

abbrev pub record_lengths : Given → RecordLengths
record_lengths b =
    let s = b.shared in
    record { offsets = length s.offsets; first = length s.first; dependency = length s.dependency; next = length s.next }

abbrev pub group_lengths : GroupTables → GroupLengths
group_lengths t =
    record {
      given = length t.given;
      min_size = length t.min_size;
      max_size = length t.max_size;
      min_module_size = length t.min_module_size;
      max_module_size = length t.max_module_size;
      min_share_count = length t.min_share_count;
      tags = length t.tags;
      priority = length t.priority;
      threshold = length t.threshold;
    }

-- the lengths of all tables, and the counts that they are held to
pub record HandsLengths (b : Given) (n g d : ℕ) (modules : ModuleLengths) (records : RecordLengths) (groups : GroupLengths) (answers : ℕ) : Type 0 where
  pub module_count : b.shared.n ≡ n
  pub group_count : b.variant.g ≡ g
  pub record_count : b.shared.d ≡ d
  pub by_module : module_lengths b ≡ modules
  pub by_record : record_lengths b ≡ records
  pub by_group : group_lengths b.variant.groups ≡ groups
  pub by_answer : length b.variant.answers ≡ answers

abbrev pub area_lengths : Areas → AreaLengths
area_lengths a =
    let m = a.modules in
    let r = a.records in
    record {
      chunk_of = length m.chunk_of;
      next_of = length m.next_of;
      first_of = length r.first_of;
      group_of = length r.group_of;
      name_of = length r.name_of;
      size_of = length r.size_of;
      bits_of = length r.bits_of;
      mark_of = length r.mark_of;
    }

-- ---- tables

pub record HandsRecords (b : Given) (first dependency next : List ℕ) (n d : ℕ) : Type 0 where
  pub module_count : b.shared.n ≡ n
  pub record_count : b.shared.d ≡ d
  pub firsts : b.shared.first ≡ first
  pub modules : b.shared.dependency ≡ dependency
  pub nexts : b.shared.next ≡ next

pub record HandsBits (b : Given) (flags bits : List ℕ) (n e : ℕ) : Type 0 where
  pub module_count : b.shared.n ≡ n
  pub entry_count : b.shared.e ≡ e
  pub flag_bytes : b.variant.flags ≡ flags
  pub entry_bits : b.shared.bits ≡ bits

-- the tables have an entry for each of g groups
abbrev pub HasGroups : GroupTables → ℕ → Type 0
HasGroups t g = (i : ℕ) → i < g → HasGroup t i

pub record HandsOptions (b : Given) (global : Options) (g : ℕ) (t : GroupTables) : Type 0 where
  pub group_count : b.variant.g ≡ g
  pub globals : b.shared.options ≡ global
  pub group_tables : b.variant.groups ≡ t
