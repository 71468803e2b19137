-- The groups as flat tables, one entry a group each. A byte says which options a group has: 1 min_size, 2 max_size, 4 min_module_size,
-- 8 max_module_size, 16 min_share_count, 32 recursion, summed; and 64 recursion on, 128 entries_aware.
use Rattle.std.specs.Prelude.{ℕ, ◌<◌, List, Float, length, get_or}
use Rattle.std.specs.Bool.{then_some}
use Rattle.whole.specs.Double.{to_f64}
use Rattle.bitset.specs.Word.{bit}
use Rattle.options.specs.declared.Options.{Options}
use Rattle.options.specs.declared.Group.{Group}
use Rattle.options.specs.declared.tables.Groups.{Groups}

pub record GroupTables : Type 0 where
  pub given : List ℕ
  pub min_size : List Float
  pub max_size : List Float
  pub min_module_size : List Float
  pub max_module_size : List Float
  pub min_share_count : List ℕ
  pub tags : List ℕ
  pub priority : List ℕ
  pub threshold : List Float

-- what the tables of groups that are handed in hold
abbrev pub tables_of : Groups → GroupTables
tables_of t =
    record {
      given = t.given.now;
      min_size = t.min_size.now;
      max_size = t.max_size.now;
      min_module_size = t.min_module_size.now;
      max_module_size = t.max_module_size.now;
      min_share_count = t.min_share_count.now;
      tags = t.tags.now;
      priority = t.priority.now;
      threshold = t.threshold.now;
    }

-- every table has an entry for group g
pub record HasGroup (t : GroupTables) (g : ℕ) : Type 0 where
  pub given_in : g < length t.given
  pub min_size_in : g < length t.min_size
  pub max_size_in : g < length t.max_size
  pub min_module_size_in : g < length t.min_module_size
  pub max_module_size_in : g < length t.max_module_size
  pub min_share_count_in : g < length t.min_share_count
  pub tags_in : g < length t.tags
  pub priority_in : g < length t.priority
  pub threshold_in : g < length t.threshold

-- the options that a group's byte says it has, of the values that stand in its entries
unfoldable pub options_by : ℕ → Float → Float → Float → Float → ℕ → Options
unfolding bit
options_by b min_size max_size min_module_size max_module_size min_share_count =
    record {
      min_size = then_some (bit b 0) min_size;
      max_size = then_some (bit b 1) max_size;
      min_module_size = then_some (bit b 2) min_module_size;
      max_module_size = then_some (bit b 3) max_module_size;
      min_share_count = then_some (bit b 4) min_share_count;
      recursion = then_some (bit b 5) (bit b 6);
    }

-- group g
unfoldable pub group_at : GroupTables → ℕ → Group
unfolding bit options_by
group_at t g =
    let b = get_or t.given g 0 in
    let zero = to_f64 0 in
    record {
      options =
          options_by b (get_or t.min_size g zero) (get_or t.max_size g zero) (get_or t.min_module_size g zero)
          (get_or t.max_module_size g zero) (get_or t.min_share_count g 0);
      tags = get_or t.tags g 0;
      priority = get_or t.priority g 0;
      entries_aware = bit b 7;
      threshold = get_or t.threshold g zero;
    }
