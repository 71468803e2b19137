-- `turns::settings::all_settings` meets its contract: one group's settings more a turn.
use Prim.Native.Nat.{◌≤◌}
use mathlib.Core.Path.{◌≡◌}
use lib.ListN.{length}
use Rattle.options.specs.Force.{settings_under}
use Rattle.options.specs.Tables.{group_at}
use Rattle.turns.specs.Order.{AreSettings}
use Rattle.turns.proofs.settings.all_settings.Given as goal

abbrev pub invariant-loop-i : goal.invariant-loop-i
invariant-loop-i l =
    (l.i ≤ l.g) × (length l.all ≡ 64) × AreSettings l.all l.i (λ j. settings_under l.global (group_at (record {
      given = l.groups.given.now;
      min_size = l.groups.min_size.now;
      max_size = l.groups.max_size.now;
      min_module_size = l.groups.min_module_size.now;
      max_module_size = l.groups.max_module_size.now;
      min_share_count = l.groups.min_share_count.now;
      tags = l.groups.tags.now;
      priority = l.groups.priority.now;
      threshold = l.groups.threshold.now;
    }) j))
