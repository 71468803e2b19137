-- What an item ends as where no cut is looked for: nothing where it is empty or below min_size, and itself where max_size doesn't bind it.
use Prim.Native.Nat.{ℕ, ◌≤◌}
use mathlib.Core.Bool.{true, false}
use mathlib.Core.List.{List, [], ◌∷◌}
use mathlib.Core.Path.{◌≡◌, refl, ap, ◌∙◌}
use native.Mathlib.Omega.{arith}
use lib.Ieee.{Float, lt}
use lib.ListN.{length}
use Rattle.std.specs.Prelude.{None, Some}
use Rattle.options.specs.declared.Settings.{Settings}
use Rattle.grouping.specs.Tree.{Tree}
use Rattle.grouping.specs.Sizes.{item_size}
use Rattle.grouping.specs.Fate.{Fate, cut_if, fate_of}
use Rattle.settling.specs.Ends.{ends_by, ends_from, ends_of}

pub ends_empty : (r : Settings) (tree : Tree) → ends_of r tree [] ≡ []
unfolding ends_of ends_from fate_of
ends_empty r tree = refl

pub ends_dropped : (r : Settings) (tree : Tree) (places : List ℕ) → lt (item_size r tree places) r.min_size ≡ true → ends_of r tree places ≡ []
unfolding ends_of ends_from fate_of
ends_dropped r tree [] e = refl
ends_dropped r tree (p ∷ places) e = rw e

pub ends_unlimited : (r : Settings) (tree : Tree) (places : List ℕ) → 1 ≤ length places → lt (item_size r tree places) r.min_size ≡ false
    → r.max_size ≡ None → ends_of r tree places ≡ places ∷ []
unfolding ends_of ends_from fate_of
ends_unlimited r tree [] some e q = absurd (omega arith)
ends_unlimited r tree (p ∷ places) some e q = rw (e, q)

-- the fate of an item that is neither empty nor below min_size
pub fate_standing : (r : Settings) (tree : Tree) (maximum : Float) → r.max_size ≡ Some maximum → (places : List ℕ) → 1 ≤ length places
    → lt (item_size r tree places) r.min_size ≡ false → fate_of r tree places ≡ cut_if (lt maximum (item_size r tree places)) r tree maximum places
unfolding fate_of
fate_standing r tree maximum limit [] some e = absurd (omega arith)
fate_standing r tree maximum limit (p ∷ places) some e = rw (e, limit)

pub ends_small : (r : Settings) (tree : Tree) (maximum : Float) → r.max_size ≡ Some maximum → (places : List ℕ) → 1 ≤ length places
    → lt (item_size r tree places) r.min_size ≡ false → lt maximum (item_size r tree places) ≡ false → ends_of r tree places ≡ places ∷ []
unfolding ends_of ends_from
ends_small r tree maximum limit places some e small =
    ap (λ (fate : Fate). ends_by (ends_from (length places) r tree) fate places) (fate_standing r tree maximum limit places some e) ∙ rw small
