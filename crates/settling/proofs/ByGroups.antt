-- The chunk list group by group: settling the items of the work list one after another is going from group to group, and in each from name to name.
use Prim.Native.Nat.{ℕ}
use mathlib.Core.List.{List, [], foldl}
use mathlib.Core.Path.{◌≡◌, refl, ap, ◌∙◌}
use Rattle.options.specs.declared.Settings.{Settings}
use Rattle.grouping.specs.Given.{Given}
use Rattle.grouping.specs.Settings.{settings_of, all_settings}
use Rattle.grouping.specs.Tree.{Tree, tree_of}
use Rattle.grouping.specs.WorkList.{work_list}
use Rattle.grouping.specs.ChunkList.{Chunk, chunks_of, chunk_list}
use Rattle.settling.specs.Settled.{settled}
use Rattle.settling.specs.Traversal.{group_order, names_of, items_of, after_name, after_group, all_groups}
use Rattle.lists.proofs.Blocks.{foldl_flat_map}
use Rattle.settling.proofs.WorkTraversal.{items_of_group, work_traversal}

-- one name
name_settled : (r : Settings) (g : ℕ) (tree : Tree) (chunks : List Chunk) (name : ℕ)
    → foldl (settled tree) chunks (items_of r g tree name) ≡ after_name r g tree chunks name
unfolding after_name
name_settled r g tree chunks name = refl

-- one group
group_settled : (k : ℕ) (settings : ℕ → Settings) (tree : Tree) (chunks : List Chunk) (g : ℕ)
    → foldl (settled tree) chunks (items_of_group k settings tree g) ≡ after_group k settings tree chunks g
unfolding after_group
group_settled k settings tree chunks g =
    let r = settings g in
    foldl_flat_map (settled tree) (after_name r g tree) (items_of r g tree) (name_settled r g tree) chunks (names_of k r g tree)

pub list_by_groups : (b : Given) → foldl (settled (tree_of b)) [] (work_list b.shared.k (all_settings b) (tree_of b)) ≡ all_groups b
unfolding all_settings all_groups
list_by_groups b =
    let k = b.shared.k in
    let tree = tree_of b in
    let count = b.variant.g in
    ap (foldl (settled tree) []) (work_traversal k (settings_of b) tree count)
    ∙ foldl_flat_map (settled tree) (after_group k (settings_of b) tree) (items_of_group k (settings_of b) tree) (group_settled k (settings_of b) tree) []
    (group_order (settings_of b) count)

-- the chunks of a tree are its items settled one after another
abbrev pub ChunksSettled : Type 0
ChunksSettled = (k : ℕ) (settings : List Settings) (tree : Tree) → chunks_of k settings tree ≡ foldl (settled tree) [] (work_list k settings tree)

pub chunk_list_by_groups : ChunksSettled → (b : Given) → chunk_list b ≡ all_groups b
unfolding chunk_list
chunk_list_by_groups chunks_settled b = chunks_settled b.shared.k (all_settings b) (tree_of b) ∙ list_by_groups b
