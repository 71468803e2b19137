-- What the order of the turns hands over to a run of a build.
use Prim.Native.Nat.{ℕ, ◌<◌}
use mathlib.Core.Path.{◌≡◌, ◌∙◌}
use native.Mathlib.Omega.{arith}
use lib.ListN.{length, get_or}
use Rattle.lists.specs.Range.{range}
use Rattle.lists.proofs.Members.{range_mem}
use Rattle.lists.proofs.Position.{get_or_mem}
use Rattle.lists.proofs.Range.{length_range}
use Rattle.lists.proofs.Sort.{sort_mem}
use Rattle.lists.proofs.Rearranged.{sort_length}
use Rattle.options.specs.declared.Settings.{Settings}
use Rattle.settling.specs.Traversal.{group_first, group_order}

-- each group has one turn
module _ (settings : ℕ → Settings) (count : ℕ) where
  pub order_length : length (group_order settings count) ≡ count
  unfolding group_order
  order_length = sort_length (group_first settings) (range 0 count) ∙ length_range 0 count

  pub order_inside : (i : ℕ) → i < length (group_order settings count) → get_or (group_order settings count) i 0 < count
  unfolding group_order
  order_inside i h =
      let turns = group_order settings count in
      let r = range_mem 0 count (get_or turns i 0) (sort_mem (group_first settings) (range 0 count) (get_or turns i 0) (get_or_mem turns i 0 h)) in
      omega arith
