-- Step 3: "The work list takes higher priority first, then lower group, then lower name", and then the smallest id held when subgroups were
-- finished.
use Rattle.std.specs.Prelude.{ℕ, suc, Bool, true, false, cond, ltb}
use mathlib.Core.List.{List, [], ◌∷◌, ◌++◌, map, foldl}
use Rattle.std.proofs.Math.Option.{none}
use Rattle.lists.specs.Keep.{keep}
use Rattle.lists.specs.Least.{earlier}
use Rattle.lists.specs.Range.{range}
use Rattle.lists.specs.Sort.{sort_by}
use Rattle.ids.specs.Order.{before}
use Rattle.options.specs.declared.Settings.{Settings}
use Rattle.grouping.specs.Tree.{Tree, member_at}
use Rattle.grouping.specs.Item.{Item}
use Rattle.grouping.specs.Sets.{named, set_of}
use Rattle.grouping.specs.Subgroups.{divided_items}

-- an order by one number, and by what comes next where the two are equal
abbrev pub lower_or : ℕ → ℕ → Bool → Bool
lower_or a b next = cond (ltb a b) true (cond (ltb b a) false next)

-- "the smallest stable id" held at places
unfoldable pub smallest_id : Tree → List ℕ → List ℕ
unfolding before
smallest_id tree [] = []
smallest_id tree (p ∷ places) = foldl (earlier before) (member_at tree p).id (map (λ q. (member_at tree q).id) places)

-- The last tie, between subgroups of one (group, name). Items are ordered before any turn, so these are the ids "they held when subgroups were
-- finished, after merging".
unfoldable pub subgroup_first : Tree → Item → Item → Bool
unfolding before smallest_id
subgroup_first tree a b = before (smallest_id tree a.places) (smallest_id tree b.places)

-- the order of the work list
unfoldable pub comes_first : Tree → Item → Item → Bool
unfolding subgroup_first
comes_first tree a b =
    lower_or b.settings.priority a.settings.priority (lower_or a.group b.group (lower_or a.name b.name (subgroup_first tree a b)))

-- the items of one set: one, or its subgroups if the group is entries-aware
abbrev pub items_of_set : Bool → Settings → ℕ → ℕ → Tree → List ℕ → List Item
items_of_set true r g name tree places = divided_items r g name tree places
items_of_set false r g name tree places = record { group = g; name = name; subgroup = 0; settings = r; bits = none; places = places } ∷ []

-- the items of group g: one set for each name with which a member takes part
unfoldable pub items_of_names : Settings → ℕ → Tree → List ℕ → List Item
unfolding set_of divided_items
items_of_names r g tree [] = []
items_of_names r g tree (name ∷ names) = items_of_set r.entries_aware r g name tree (set_of r g tree name) ++ items_of_names r g tree names

-- the items of all groups, counted from g; names are below k
unfoldable pub items_from : ℕ → ℕ → List Settings → Tree → List Item
unfolding items_of_names keep range named
items_from k g [] tree = []
items_from k g (r ∷ settings) tree = items_of_names r g tree (keep (named r g tree) (range 0 k)) ++ items_from k (suc g) settings tree

-- the work list at its start
unfoldable pub work_list : ℕ → List Settings → Tree → List Item
unfolding sort_by comes_first items_from
work_list k settings tree = sort_by (comes_first tree) (items_from k 0 settings tree)
