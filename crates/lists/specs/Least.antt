-- The element of a list that comes first in an order.
use Rattle.std.specs.Prelude.{Bool, cond}
use mathlib.Core.List.{List, [], ◌∷◌, foldl}
use Rattle.std.proofs.Math.Option.{Option, none, some}

-- the earlier of two in the order, the first at a tie
abbrev pub earlier : {A : Type 0} → (A → A → Bool) → A → A → A
earlier before best x = cond (before x best) x best

-- none if there is no element
unfoldable pub least : {A : Type 0} → (A → A → Bool) → List A → Option A
least before [] = none
least before (x ∷ l) = some (foldl (earlier before) x l)
