-- What is handed in, and the lent areas. What is handed in falls into what all variants of a module tree share and what is a variant's own.
use Rattle.std.specs.Prelude.{ℕ, ◌+◌, ◌*◌, Bool, List, Float, get_or}
use Rattle.flags.specs.Flags.{listed, eligible_at}
use Rattle.options.specs.declared.Options.{Options}
use Rattle.options.specs.Tables.{GroupTables}

-- what variants share
pub record Shared : Type 0 where
  -- the counts of modules, entries, names and dependency records
  pub n : ℕ
  pub e : ℕ
  pub k : ℕ
  pub d : ℕ
  -- per module: size, execution order, share count, tags, entry bits (four words)
  pub sizes : List ℕ
  pub orders : List ℕ
  pub shares : List ℕ
  pub tags : List ℕ
  pub bits : List ℕ
  -- stable ids: one byte slice and N+1 offsets
  pub bytes : List ℕ
  pub offsets : List ℕ
  -- dependencies: each module's first record, and the records' modules and nexts
  pub first : List ℕ
  pub dependency : List ℕ
  pub next : List ℕ
  -- the global options
  pub options : Options

-- what is a variant's own
pub record Variant : Type 0 where
  -- per module, the flag byte: it says who is assigned
  pub flags : List ℕ
  -- the count of groups, and the groups
  pub g : ℕ
  pub groups : GroupTables
  -- "one u32 for each group and module, group by group"
  pub answers : List ℕ

-- one build: a variant of a module tree, and the chunk count on entry
pub record Given : Type 0 where
  pub shared : Shared
  pub variant : Variant
  pub on_entry : ℕ

-- module m is normal and included
abbrev pub is_listed : Given → ℕ → Bool
is_listed b m = listed (get_or b.variant.flags m 0)

-- "A module is eligible when normal, included and not assigned."
abbrev pub is_eligible : Given → ℕ → Bool
is_eligible b m = eligible_at b.variant.flags m

-- the answer of group g for module m: "0 not matched, 1 matched without a name, 2+k matched with name k"
abbrev pub answer_of : Given → ℕ → ℕ → ℕ
answer_of b g m = get_or b.variant.answers (g * b.shared.n + m) 0

-- per module: its chunk number plus 1, and the next module in its chunk plus 1
pub record ModuleAreas : Type 0 where
  pub chunk_of : List ℕ
  pub next_of : List ℕ

-- per chunk: first module plus 1, group, name, size, entry bits (four words) and mark
pub record ChunkRecords : Type 0 where
  pub first_of : List ℕ
  pub group_of : List ℕ
  pub name_of : List ℕ
  pub size_of : List Float
  pub bits_of : List ℕ
  pub mark_of : List ℕ

-- the lent areas
pub record Areas : Type 0 where
  pub modules : ModuleAreas
  pub records : ChunkRecords
  pub scratch : List ℕ
