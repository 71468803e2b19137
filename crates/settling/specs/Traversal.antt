-- The order in which a run comes to the items: group by group, in each group name by name, and those of a name by the last tie.
use Rattle.std.specs.Prelude.{ℕ, Bool, ltb}
use mathlib.Core.List.{List, [], foldl}
use Rattle.lists.specs.Keep.{keep}
use Rattle.lists.specs.Range.{range}
use Rattle.lists.specs.Sort.{sort_by}
use Rattle.options.specs.declared.Settings.{Settings}
use Rattle.grouping.specs.Given.{Given}
use Rattle.grouping.specs.Settings.{settings_of}
use Rattle.grouping.specs.Tree.{Tree, tree_of}
use Rattle.grouping.specs.Item.{Item}
use Rattle.grouping.specs.Sets.{named, set_of}
use Rattle.grouping.specs.WorkList.{lower_or, subgroup_first, items_of_set}
use Rattle.grouping.specs.ChunkList.{Chunk}
use Rattle.settling.specs.Settled.{settled}

-- "higher priority first, then lower group"
unfoldable pub group_first : (ℕ → Settings) → ℕ → ℕ → Bool
group_first settings g h = lower_or (settings h).priority (settings g).priority (ltb g h)

-- the groups in the order of their turns
unfoldable pub group_order : (ℕ → Settings) → ℕ → List ℕ
unfolding sort_by group_first range
group_order settings count = sort_by (group_first settings) (range 0 count)

-- the names of group g with a set, ascending
unfoldable pub names_of : ℕ → Settings → ℕ → Tree → List ℕ
unfolding keep named range
names_of k r g tree = keep (named r g tree) (range 0 k)

-- items of one (group, name) in the order of their turns
unfoldable pub in_turn : Tree → List Item → List Item
unfolding sort_by subgroup_first
in_turn tree items = sort_by (subgroup_first tree) items

-- the items of one (group, name), in that order
unfoldable pub items_of : Settings → ℕ → Tree → ℕ → List Item
unfolding in_turn set_of
items_of r g tree name = in_turn tree (items_of_set r.entries_aware r g name tree (set_of r g tree name))

-- the chunks after the items of one name more
unfoldable pub after_name : Settings → ℕ → Tree → List Chunk → ℕ → List Chunk
unfolding settled items_of
after_name r g tree chunks name = foldl (settled tree) chunks (items_of r g tree name)

-- the chunks after one group more
unfoldable pub after_group : ℕ → (ℕ → Settings) → Tree → List Chunk → ℕ → List Chunk
unfolding after_name names_of
after_group k settings tree chunks g = foldl (after_name (settings g) g tree) chunks (names_of k (settings g) g tree)

-- the chunks of a build, group by group
unfoldable pub all_groups : Given → List Chunk
unfolding after_group group_order settings_of tree_of
all_groups b =
    foldl (after_group b.shared.k (settings_of b) (tree_of b)) [] (group_order (settings_of b) b.variant.g)
