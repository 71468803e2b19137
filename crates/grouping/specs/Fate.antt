-- Step 4: what becomes of an item that is taken off the work list. A cut's pieces are items and meet the same fate.
use Rattle.std.specs.Prelude.{ℕ, Bool, true, false, List, [], ◌∷◌, map, Float, take, drop, Option, None, Some}
use Rattle.std.specs.Float.Ieee.{lt}
use Rattle.lists.specs.Elem.{elem}
use Rattle.lists.specs.Keep.{keep}
use Rattle.lists.specs.Sort.{sort_by}
use Rattle.ids.specs.Order.{before}
use Rattle.cut.specs.Cut.{Chosen, fewer_than_two, none_allowed, cut, cut_of}
use Rattle.options.specs.declared.Settings.{Settings}
use Rattle.grouping.specs.Tree.{Tree, member_at}
use Rattle.grouping.specs.Sizes.{sizes_at, item_size}

-- emptied earlier; dropped, below min_size; cut into a left and a right piece; or emitted as a chunk
pub data Fate : Type 0 where
  emptied : Fate
  dropped : Fate
  parted : List ℕ → List ℕ → Fate
  emitted : Fate

-- "put in id order"
unfoldable pub in_id_order : Tree → List ℕ → List ℕ
unfolding sort_by before
in_id_order tree places = sort_by (λ p q. before (member_at tree p).id (member_at tree q).id) places

-- the places of one side of a cut, in execution order
abbrev pub among : List ℕ → List ℕ → List ℕ
among side places = keep (λ p. elem p side) places

-- "cut by these two limits if it can be", "Otherwise it becomes a chunk"
abbrev pub parted_by : List ℕ → List ℕ → Chosen → Fate
parted_by places ordered fewer_than_two = emitted
parted_by places ordered none_allowed = emitted
parted_by places ordered (cut i left right) = parted (among (take i ordered) places) (among (drop i ordered) places)

unfoldable pub cut_fate : Settings → Tree → Float → List ℕ → Fate
unfolding in_id_order cut_of keep elem
cut_fate r tree maximum places =
    let ordered = in_id_order tree places in
    parted_by places ordered (cut_of (map (λ p. (member_at tree p).id) ordered) (sizes_at r tree ordered) r.min_size maximum)

-- "One strictly above max_size"
abbrev pub cut_if : Bool → Settings → Tree → Float → List ℕ → Fate
cut_if true r tree maximum places = cut_fate r tree maximum places
cut_if false r tree maximum places = emitted

abbrev pub limited_to : Option Float → Settings → Tree → List ℕ → Fate
limited_to None r tree places = emitted
limited_to (Some maximum) r tree places = cut_if (lt maximum (item_size r tree places)) r tree maximum places

-- "One strictly below min_size is dropped"
abbrev pub unless : Bool → Settings → Tree → List ℕ → Fate
unless true r tree places = dropped
unless false r tree places = limited_to r.max_size r tree places

-- "An item emptied earlier is dropped."
unfoldable pub fate_of : Settings → Tree → List ℕ → Fate
unfolding item_size lt cut_fate
fate_of r tree [] = emptied
fate_of r tree (p ∷ places) = unless (lt (item_size r tree (p ∷ places)) r.min_size) r tree (p ∷ places)
