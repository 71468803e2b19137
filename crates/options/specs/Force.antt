-- "A group's option overrides the global one", and the defaults.
use Rattle.std.specs.Prelude.{true, unwrap_or}
use Rattle.std.specs.Option.{option_or}
use Rattle.whole.specs.Double.{to_f64}
use Rattle.filter.specs.declared.StaticFilter.{StaticFilter}
use Rattle.options.specs.declared.Options.{Options}
use Rattle.options.specs.declared.Group.{Group}
use Rattle.options.specs.declared.Settings.{Settings}

-- the options in force for a group: its own, and the global ones where it has none
abbrev pub in_force : Options → Options → Options
in_force own global =
    record {
      min_size = option_or own.min_size global.min_size;
      max_size = option_or own.max_size global.max_size;
      min_module_size = option_or own.min_module_size global.min_module_size;
      max_module_size = option_or own.max_module_size global.max_module_size;
      min_share_count = option_or own.min_share_count global.min_share_count;
      «recursion» = option_or own.recursion global.recursion;
    }

-- what the static filter of a group is handed: its tag mask and the limits in force
abbrev pub filter_of : Group → Options → StaticFilter
filter_of g force =
    record {
      tags = g.tags;
      min_module_size = force.min_module_size;
      max_module_size = force.max_module_size;
      min_share_count = force.min_share_count;
    }

-- the settings of a group under the global options; "Defaults: … min_size 0 … recursion true"
abbrev pub settings_under : Options → Group → Settings
settings_under global g =
    let force = in_force g.options global in
    record {
      filter = filter_of g force;
      recursive = unwrap_or force.recursion true;
      priority = g.priority;
      entries_aware = g.entries_aware;
      threshold = g.threshold;
      min_size = unwrap_or force.min_size (to_f64 0);
      max_size = force.max_size;
    }
