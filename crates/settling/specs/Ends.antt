-- What one item ends as, by itself: nothing, its places, or its pieces, right before left.
use Rattle.std.specs.Prelude.{ℕ, zero, suc, List, [], ◌∷◌, ◌++◌, length}
use Rattle.options.specs.declared.Settings.{Settings}
use Rattle.grouping.specs.Tree.{Tree}
use Rattle.grouping.specs.Fate.{Fate, emptied, dropped, parted, emitted, fate_of}

-- by the fate of the item; `again` is what a piece ends as
abbrev pub ends_by : (List ℕ → List (List ℕ)) → Fate → List ℕ → List (List ℕ)
ends_by again emptied places = []
ends_by again dropped places = []
ends_by again (parted left right) places = again right ++ again left
ends_by again emitted places = places ∷ []

-- at most so many cuts deep
unfoldable pub ends_from : ℕ → Settings → Tree → List ℕ → List (List ℕ)
unfolding fate_of
ends_from zero r tree places = []
ends_from (suc most) r tree places = ends_by (ends_from most r tree) (fate_of r tree places) places

-- a piece has fewer places than what was cut, so that the bound cuts nothing short
unfoldable pub ends_of : Settings → Tree → List ℕ → List (List ℕ)
unfolding ends_from
ends_of r tree places = ends_from (suc (length places)) r tree places
