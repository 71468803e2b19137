-- Refusal 8 over options: "a given limit or threshold is NaN".
use Rattle.std.specs.Prelude.{Bool, ◌||◌}
use Rattle.std.specs.Float.Ieee.{is_nan}
use Rattle.limit.specs.Limits.{is_nan_limit}
use Rattle.options.specs.declared.Options.{Options}
use Rattle.options.specs.declared.Group.{Group}

unfoldable pub nan_options : Options → Bool
nan_options o = is_nan_limit o.min_size || (is_nan_limit o.max_size || (is_nan_limit o.min_module_size || is_nan_limit o.max_module_size))

unfoldable pub nan_group : Group → Bool
unfolding nan_options is_nan
nan_group g = nan_options g.options || is_nan g.threshold
