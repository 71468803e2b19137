-- The chunk list of a build is what its groups leave, each on its turn.
use mathlib.Core.List.{[], foldl}
use mathlib.Core.Path.{◌≡◌}
use Rattle.grouping.specs.Given.{Given}
use Rattle.grouping.specs.Settings.{settings_of}
use Rattle.grouping.specs.Tree.{tree_of}
use Rattle.grouping.specs.ChunkList.{chunk_list}
use Rattle.settling.specs.Traversal.{group_order, after_group, all_groups}
use Rattle.settling.proofs.ByGroups.{chunk_list_by_groups}
use Rattle.settling.proofs.ChunksSettled.{chunks_settled}

pub all_groups_lem : (b : Given)
    → chunk_list b ≡ foldl (after_group b.shared.k (settings_of b) (tree_of b)) [] (group_order (settings_of b) b.variant.g)
unfolding all_groups
all_groups_lem b = chunk_list_by_groups chunks_settled b
