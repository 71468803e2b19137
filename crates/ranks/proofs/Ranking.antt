-- Ranks that are written one after another: after i turns the first i modules of the list have theirs.
use Prim.Native.Nat.{ℕ, ◌+◌, ◌≤◌, ◌<◌}
use mathlib.Core.List.{List, Memᴰ}
use mathlib.Core.Logic.{⊎_elim}
use mathlib.Core.Path.{◌≡◌, refl, sym, ap, ◌∙◌}
use native.Mathlib.Nat.{eq-or-lt_of_le}
use native.Mathlib.Omega.{arith}
use lib.ListN.{length, get_or, set, length-set}
use lib.Seq.{get_or-set_same, get_or-set_other}
use Rattle.lists.proofs.Position.{get_or_mem}
use Rattle.ranks.specs.ById.{HasRanks, Ranks}

pub record RanksTo (list rank₀ rank : List ℕ) (i : ℕ) : Type 0 where
  pub fits : i ≤ length list
  pub same_length : length rank ≡ length rank₀
  pub position : (j : ℕ) → j < i → get_or rank (get_or list j 0) 0 ≡ j
  pub others : (m : ℕ) → ((j : ℕ) → j < i → m ≡ get_or list j 0 → ⊥) → get_or rank m 0 ≡ get_or rank₀ m 0

pub none_ranked : (list rank : List ℕ) → RanksTo list rank rank 0
none_ranked list rank = record { fits = omega arith; same_length = refl; position = λ j h. absurd (omega arith); others = λ m h. refl }

module _ (list rank₀ rank : List ℕ) (i : ℕ) (given : HasRanks list rank₀) (r : RanksTo list rank₀ rank i) where
  pub one_ranked : i < length list → RanksTo list rank₀ (set rank (get_or list i 0) i) (i + 1)
  one_ranked h =
      record {
        fits = omega arith;
        same_length = rw length-set r.same_length;
        position = at;
        others = λ m no. get_or-set_other rank (get_or list i 0) m i 0 (no i (omega arith)) ∙ r.others m (λ j l. no j (omega arith));
      }
    where
      room : get_or list i 0 < length rank
      room = omega (arith, given.has_rank i h, r.same_length)

      at : (j : ℕ) → j < i + 1 → get_or (set rank (get_or list i 0) i) (get_or list j 0) 0 ≡ j
      at j l =
          ⊎_elim
          (λ e. ap (λ (k : ℕ). get_or (set rank (get_or list i 0) i) (get_or list k 0) 0) e ∙ get_or-set_same rank (get_or list i 0) i 0 room ∙ sym e)
          (λ u. get_or-set_other rank (get_or list i 0) (get_or list j 0) i 0 (given.distinct j i u h) ∙ r.position j u)
          (eq-or-lt_of_le below)
        where
          below : j ≤ i
          below = omega arith

  pub all_ranked : length list ≤ i → Ranks list rank₀ rank
  all_ranked h =
      record {
        same_length = r.same_length;
        position = λ j l. r.position j (omega arith);
        others = λ m no. r.others m (λ j l e. absurd (no (within m j l e)));
      }
    where
      within : (m j : ℕ) → j < i → m ≡ get_or list j 0 → Memᴰ m list
      within m j l e = rw e (get_or_mem list j 0 (omega (arith, r.fits)))
