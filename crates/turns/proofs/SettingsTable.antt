-- A table of settings that is filled group by group.
use Prim.Native.Nat.{ℕ, ◌+◌, ◌≤◌, ◌<◌}
use mathlib.Core.List.{List}
use mathlib.Core.Logic.{⊎_elim}
use mathlib.Core.Path.{◌≡◌, sym, ◌∙◌, subst}
use native.Mathlib.Nat.{eq-or-lt_of_le}
use native.Mathlib.Omega.{arith}
use lib.ListN.{length, get_or, set}
use lib.Seq.{get_or-set_same, get_or-set_other}
use Rattle.options.specs.declared.Settings.{Settings}
use Rattle.turns.specs.Order.{AreSettings}

pub settings_more : (table : List Settings) (i : ℕ) (f : ℕ → Settings) {own : Settings} → AreSettings table i f → i < length table → own ≡ f i
    → AreSettings (set table i own) (i + 1) f
settings_more table i f {own} are h e g other u = ⊎_elim same earlier (eq-or-lt_of_le below)
  where
    below : g ≤ i
    below = omega arith

    same : g ≡ i → get_or (set table i own) g other ≡ f g
    same q = subst (λ (k : ℕ). get_or (set table i own) k other ≡ f k) (sym q) (get_or-set_same table i own other h ∙ e)

    earlier : g < i → get_or (set table i own) g other ≡ f g
    earlier v = get_or-set_other table i g own other (λ q. omega arith) ∙ are g other v
