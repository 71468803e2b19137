-- The tables that a run reads, and that they are those of a build which passed the tests.
use Rattle.std.specs.Prelude.{ℕ, List, ◌≡◌}
use Rattle.lists.specs.Sort.{sort_by}
use Rattle.options.specs.declared.Settings.{Settings}
use Rattle.grouping.specs.Given.{Given}
use Rattle.grouping.specs.Settings.{settings_of}
use Rattle.grouping.specs.Tree.{runs_before}
use Rattle.settling.specs.Modules.{Passed}
use Rattle.items.specs.Turn.{Tables}
use Rattle.places.specs.Ordered.{listed_of}
use Rattle.running.specs.Fits.{Ranks, Walking}
use Rattle.turns.specs.Order.{AreSettings}
use Rattle.groups.specs.Turn.{Asked}

-- the tables of a run: the settings of the groups and what they are matched by, the modules' ids, sizes, ranks and entry bits, and what sets are
-- found along, with a list of modules
pub record RunTables : Type 0 where
  pub settings : List Settings
  pub g : ℕ
  pub asked : Asked
  pub n : ℕ
  pub tables : Tables
  pub bits : List ℕ
  pub walking : Walking

-- the settings, answers and tables are a build's; of the order nothing is said
pub record TablesFit (b : Given) (t : RunTables) (on_entry : ℕ) : Type 0 where
  pub passed : Passed b
  pub entry : on_entry ≡ b.on_entry
  pub groups : t.g ≡ b.variant.g
  pub settings_are : AreSettings t.settings b.variant.g (settings_of b)
  pub answers : t.asked.answers ≡ b.variant.answers
  pub tags : t.asked.tags ≡ b.shared.tags
  pub shares : t.asked.shares ≡ b.shared.shares
  pub modules : t.n ≡ b.shared.n
  pub bytes : t.tables.bytes ≡ b.shared.bytes
  pub offsets : t.tables.offsets ≡ b.shared.offsets
  pub sizes : t.tables.sizes ≡ b.shared.sizes
  pub ranks : Ranks b t.tables.rank
  pub words : t.bits ≡ b.shared.bits
  pub flags : t.walking.flags ≡ b.variant.flags
  pub first : t.walking.first ≡ b.shared.first
  pub dependency : t.walking.dependency ≡ b.shared.dependency
  pub next : t.walking.next ≡ b.shared.next

-- the tables are a build's, with the normal included modules in execution order
pub record RunFits (b : Given) (t : RunTables) (on_entry : ℕ) : Type 0 where
  pub tables : TablesFit b t on_entry
  pub order : t.walking.order ≡ sort_by (runs_before b) (listed_of b)
