-- The mark of a chunk says why it is too large. It follows from the chunk's own places and the limits in force for its group, not from its item.
use Rattle.std.specs.Prelude.{ℕ, cond, List, [], ◌∷◌, map, ltb, Float, length, Option, None, Some}
use Rattle.std.specs.Float.Ieee.{lt}
use Rattle.cut.specs.Cut.{allowed_cuts}
use Rattle.cut.specs.declared.candidate.Candidate.{Candidate}
use Rattle.options.specs.declared.Settings.{Settings}
use Rattle.grouping.specs.Tree.{Tree, member_at}
use Rattle.grouping.specs.Sizes.{sizes_at, item_size}
use Rattle.grouping.specs.Fate.{in_id_order}

-- the cuts of places, put in id order, that the group's limits allow
unfoldable pub cuts_allowed : Settings → Tree → List ℕ → List Candidate
unfolding in_id_order allowed_cuts
cuts_allowed r tree places =
    let ordered = in_id_order tree places in
    allowed_cuts (map (λ p. (member_at tree p).id) ordered) (sizes_at r tree ordered) r.min_size

-- "1 above it with one module, 2 above it with no cut allowed". Places that could still be cut would have 3: no chunk of a list has it.
abbrev pub why_above : ℕ → List Candidate → ℕ
why_above count [] = cond (ltb count 2) 1 2
why_above count (c ∷ cuts) = 3

-- "0 within its maximum or without one"
abbrev pub mark_under : Option Float → Settings → Tree → List ℕ → ℕ
mark_under None r tree places = 0
mark_under (Some maximum) r tree places = cond (lt maximum (item_size r tree places)) (why_above (length places) (cuts_allowed r tree places)) 0

-- the "mark" of a chunk of these places, under the maximum in force for its group
unfoldable pub mark_of : Settings → Tree → List ℕ → ℕ
unfolding item_size cuts_allowed lt
mark_of r tree places = mark_under r.max_size r tree places
