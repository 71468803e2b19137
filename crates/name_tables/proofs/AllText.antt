-- Names that pass 14: each of them is text, and so is the empty one that stands for a name that isn't there.
use Prim.Native.Nat.{ℕ, zero, suc}
use mathlib.Core.Bool.{true, false, not}
use mathlib.Core.List.{List, [], ◌∷◌}
use mathlib.Core.Path.{◌≡◌, refl}
use borrow.Author.Tests.{not-false}
use lib.ListN.{get_or}
use Rattle.lists.proofs.Below.{neither}
use Rattle.utf8.specs.Utf8.{utf8}
use Rattle.name_tables.specs.Conditions.{any_not_utf8}

pub empty_text : utf8 [] ≡ true
unfolding utf8
empty_text = refl

pub all_text : (names : List (List ℕ)) → any_not_utf8 names ≡ false → (k : ℕ) → utf8 (get_or names k []) ≡ true
unfolding any_not_utf8
all_text [] e k = empty_text
all_text (name ∷ names) e zero = not-false (utf8 name) (neither (not (utf8 name)) (any_not_utf8 names) e).0
all_text (name ∷ names) e (suc k) = all_text names (neither (not (utf8 name)) (any_not_utf8 names) e).1 k
