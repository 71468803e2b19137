-- Small builds written row by row, for the worked examples.
use Prim.Native.Char.{code}
use Rattle.std.specs.Prelude.{ℕ, suc, ◌+◌, ◌/◌, ◌%◌, ◌^◌, cond, eqb, length}
use Prim.Native.String as text
use Prim.Native.String.{String}
use mathlib.Core.List.{List, [], ◌∷◌, ◌++◌, map, foldr}
use Rattle.lists.specs.Sum.{sum}
use Rattle.whole.specs.Double.{to_f64}
use Rattle.options.specs.Tables.{GroupTables, group_at}
use Rattle.options.specs.declared.Options.{Options}
use Rattle.grouping.specs.Given.{Shared, Variant, Given}

-- the bytes of an id; ids are ASCII here
unfoldable pub bytes_of : String → List ℕ
bytes_of text.[] = []
bytes_of (text.◌∷◌ c s) = code c ∷ bytes_of s

-- the four words of entry bits that are written as one number
abbrev pub words_of : ℕ → List ℕ
words_of entries = entries % 2 ^ 64 ∷ entries / 2 ^ 64 % 2 ^ 64 ∷ entries / 2 ^ 128 % 2 ^ 64 ∷ entries / 2 ^ 192 ∷ []

-- one module: its id, size, execution order, entry bits, the modules along its chain, its flag byte, share count and tags
pub record Row : Type 0 where
  pub id : List ℕ
  pub size : ℕ
  pub order : ℕ
  pub entries : ℕ
  pub chain : List ℕ
  pub flags : ℕ
  pub shares : ℕ
  pub tags : ℕ

-- an eligible module that one entry shares, without tags
unfoldable pub row : String → ℕ → ℕ → ℕ → List ℕ → Row
unfolding bytes_of
row id size order entries chain =
    record { id = bytes_of id; size = size; order = order; entries = entries; chain = chain; flags = 3; shares = 1; tags = 0 }

unfoldable pub flagged : ℕ → Row → Row
flagged flags r =
    record { id = r.id; size = r.size; order = r.order; entries = r.entries; chain = r.chain; flags = flags; shares = r.shares; tags = r.tags }

unfoldable pub shared_by : ℕ → Row → Row
shared_by shares r =
    record { id = r.id; size = r.size; order = r.order; entries = r.entries; chain = r.chain; flags = r.flags; shares = shares; tags = r.tags }

unfoldable pub tagged : ℕ → Row → Row
tagged tags r =
    record { id = r.id; size = r.size; order = r.order; entries = r.entries; chain = r.chain; flags = r.flags; shares = r.shares; tags = tags }

-- one option of a group: the table that holds it, what it adds to the byte that says which options the group has, and its value
pub record Choice : Type 0 where
  pub table : ℕ
  pub weight : ℕ
  pub value : ℕ

abbrev pub min_size : ℕ → Choice
min_size x = record { table = 0; weight = 1; value = x }

abbrev pub max_size : ℕ → Choice
max_size x = record { table = 1; weight = 2; value = x }

abbrev pub min_module_size : ℕ → Choice
min_module_size x = record { table = 2; weight = 4; value = x }

abbrev pub max_module_size : ℕ → Choice
max_module_size x = record { table = 3; weight = 8; value = x }

abbrev pub min_share_count : ℕ → Choice
min_share_count x = record { table = 4; weight = 16; value = x }

abbrev pub tag_mask : ℕ → Choice
tag_mask x = record { table = 5; weight = 0; value = x }

abbrev pub priority : ℕ → Choice
priority x = record { table = 6; weight = 0; value = x }

-- entries-aware, with a merge threshold
abbrev pub entries_aware : ℕ → Choice
entries_aware threshold = record { table = 7; weight = 128; value = threshold }

-- recursion has no table
abbrev pub recursion_off : Choice
recursion_off = record { table = 8; weight = 32; value = 0 }

abbrev pub recursion_on : Choice
recursion_on = record { table = 8; weight = 96; value = 0 }

-- a value in the table of an option that the group doesn't have: it must not matter
abbrev pub unused : Choice → Choice
unused c = record { table = c.table; weight = 0; value = c.value }

-- one group: its options, and its answer for each module
pub record GroupRow : Type 0 where
  pub choices : List Choice
  pub answers : List ℕ

abbrev pub group : List Choice → List ℕ → GroupRow
group choices answers = record { choices = choices; answers = answers }

-- the value of the option in a table, or 0
unfoldable pub value_of : ℕ → List Choice → ℕ
value_of table [] = 0
value_of table (c ∷ choices) = cond (eqb c.table table) c.value (value_of table choices)

abbrev pub values : ℕ → List GroupRow → List ℕ
values table groups = map (λ g. value_of table g.choices) groups

unfoldable pub group_tables : List GroupRow → GroupTables
unfolding sum value_of
group_tables groups =
    record {
      given = map (λ g. sum (map (λ c. c.weight) g.choices)) groups;
      min_size = map to_f64 (values 0 groups);
      max_size = map to_f64 (values 1 groups);
      min_module_size = map to_f64 (values 2 groups);
      max_module_size = map to_f64 (values 3 groups);
      min_share_count = values 4 groups;
      tags = values 5 groups;
      priority = values 6 groups;
      threshold = map to_f64 (values 7 groups);
    }

-- global options, written as a group's
unfoldable pub global_options : List Choice → Options
unfolding group_tables group_at
global_options choices = (group_at (group_tables (group choices [] ∷ [])) 0).options

-- the end of each id, the first starting at `at`
unfoldable pub ends : ℕ → List Row → List ℕ
ends at [] = []
ends at (r ∷ rows) = (at + length r.id) ∷ ends (at + length r.id) rows

-- the first record of each module, one chain after the other, the first starting at record `at`
abbrev pub first_of : ℕ → List ℕ → ℕ
first_of at [] = 0
first_of at (m ∷ chain) = at

unfoldable pub firsts : ℕ → List Row → List ℕ
firsts at [] = []
firsts at (r ∷ rows) = first_of at r.chain ∷ firsts (at + length r.chain) rows

-- the next of each record of a chain that starts at record `at`
unfoldable pub nexts_of : ℕ → List ℕ → List ℕ
nexts_of at [] = []
nexts_of at (m ∷ []) = 0 ∷ []
nexts_of at (m ∷ l ∷ chain) = suc at ∷ nexts_of (suc at) (l ∷ chain)

unfoldable pub nexts : ℕ → List Row → List ℕ
unfolding nexts_of
nexts at [] = []
nexts at (r ∷ rows) = nexts_of at r.chain ++ nexts (at + length r.chain) rows

abbrev pub joined : (Row → List ℕ) → List Row → List ℕ
joined f rows = foldr (λ r rest. f r ++ rest) [] rows

-- what is handed in for a module tree: E entries, K names, the global options and the modules. Record 0 of the dependencies, which is never
-- read, holds numbers out of every range.
unfoldable pub tree_rows : ℕ → ℕ → List Choice → List Row → Shared
unfolding ends firsts nexts global_options
tree_rows e k choices rows =
    record {
      n = length rows;
      e = e;
      k = k;
      d = length (joined (λ r. r.chain) rows);
      sizes = map (λ r. r.size) rows;
      orders = map (λ r. r.order) rows;
      shares = map (λ r. r.shares) rows;
      tags = map (λ r. r.tags) rows;
      bits = joined (λ r. words_of r.entries) rows;
      bytes = joined (λ r. r.id) rows;
      offsets = 0 ∷ ends 0 rows;
      first = firsts 1 rows;
      dependency = 4294967295 ∷ joined (λ r. r.chain) rows;
      next = 4294967295 ∷ nexts 1 rows;
      options = global_options choices;
    }

-- what is a variant's own: the modules' flag bytes, and the groups
unfoldable pub variant_rows : List Row → List GroupRow → Variant
unfolding group_tables
variant_rows rows groups =
    record {
      flags = map (λ r. r.flags) rows;
      g = length groups;
      groups = group_tables groups;
      answers = foldr (λ g rest. g.answers ++ rest) [] groups;
    }

-- A build: E entries, K names, the global options, the chunk count on entry, its modules and its groups.
unfoldable pub build : ℕ → ℕ → List Choice → ℕ → List Row → List GroupRow → Given
unfolding tree_rows variant_rows
build e k choices on_entry rows groups = record { shared = tree_rows e k choices rows; variant = variant_rows rows groups; on_entry = on_entry }
