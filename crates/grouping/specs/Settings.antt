-- The settings of each group: its options in force, with the defaults.
use Rattle.std.specs.Prelude.{ℕ, List, map}
use Rattle.lists.specs.Range.{range}
use Rattle.options.specs.Force.{settings_under}
use Rattle.options.specs.Tables.{group_at}
use Rattle.options.specs.declared.Settings.{Settings}
use Rattle.grouping.specs.Given.{Given}

-- the settings of group g
unfoldable pub settings_of : Given → ℕ → Settings
unfolding group_at
settings_of b g = settings_under b.shared.options (group_at b.variant.groups g)

-- the settings of all groups, in their order
unfoldable pub all_settings : Given → List Settings
unfolding range settings_of
all_settings b = map (settings_of b) (range 0 b.variant.g)
