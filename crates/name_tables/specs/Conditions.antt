-- Refusals 14 and 15 over the names of a table.
use Rattle.std.specs.Prelude.{ℕ, Bool, false, not, ◌||◌, List, [], ◌∷◌}
use Rattle.ids.specs.Order.{before}
use Rattle.utf8.specs.Utf8.{utf8}

-- "14 when a name handed in isn't UTF-8": each name by itself
unfoldable pub any_not_utf8 : List (List ℕ) → Bool
unfolding utf8
any_not_utf8 [] = false
any_not_utf8 (name ∷ names) = not (utf8 name) || any_not_utf8 names

-- "15 when the group names don't strictly ascend in byte order": each name against the next
unfoldable pub unordered : List (List ℕ) → Bool
unfolding before
unordered [] = false
unordered (a ∷ []) = false
unordered (a ∷ b ∷ names) = not (before a b) || unordered (b ∷ names)
