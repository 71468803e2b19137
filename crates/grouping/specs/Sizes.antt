-- The sizes that a group's limits and merge threshold speak of.
use Rattle.std.specs.Prelude.{ℕ, List, map, Float}
use Rattle.whole.specs.Double.{sum_f64}
use Rattle.options.specs.declared.Settings.{Settings}
use Rattle.grouping.specs.Tree.{Member, Tree, member_at}

-- the size of a member in a group of these settings
abbrev pub size_in : Settings → Member → ℕ
size_in r m = m.size

-- the sizes of places, in their order
abbrev pub sizes_at : Settings → Tree → List ℕ → List ℕ
sizes_at r tree places = map (λ p. size_in r (member_at tree p)) places

-- the size of an item
unfoldable pub item_size : Settings → Tree → List ℕ → Float
unfolding sum_f64
item_size r tree places = sum_f64 (sizes_at r tree places)
