-- The lowest rank of modules is that of one of them, and at most that of each.
use Prim.Native.Nat.{ℕ, ◌<◌, ◌≤◌}
use mathlib.Core.Bool.{Bool, true, false, cond}
use mathlib.Core.List.Memᴰ
use mathlib.Core.List.{List, [], ◌∷◌, map, foldl, Memᴰ}
use mathlib.Core.Logic.{⊎_elim}
use mathlib.Core.Path.{◌≡◌, refl}
use native.Mathlib.Nat.{eq-or-lt_of_le}
use native.Mathlib.Omega.{arith}
use borrow.Author.Tests.{ltb-true, ltb-false}
use lib.Dec.{ltb}
use lib.ListN.{get_or}
use Rattle.lists.specs.Least.{earlier}
use Rattle.division.specs.Divided.{lowest_rank}

-- what is lowest, from `start` on, is `start` or the rank of a module
pub record Lowest (rank : List ℕ) (start : ℕ) (modules : List ℕ) (low : ℕ) : Type 0 where
  pub from_start : low ≤ start
  pub at_most : (m : ℕ) → Memᴰ m modules → low ≤ get_or rank m 0
  pub held : low < start → (m : ℕ) × Memᴰ m modules × (low ≡ get_or rank m 0)

module _ (rank : List ℕ) where
  abbrev ranks : List ℕ → List ℕ
  ranks modules = map (λ m. get_or rank m 0) modules

  fold_lowest : (start : ℕ) (modules : List ℕ) → Lowest rank start modules (foldl (earlier ltb) start (ranks modules))
  fold_lowest start [] = record { from_start = omega arith; at_most = λ m i. absurd (Memᴰ.not-nil i); held = λ h. absurd (omega arith) }
  fold_lowest start (m ∷ modules) = go (ltb (get_or rank m 0) start) refl (fold_lowest (get_or rank m 0) modules) (fold_lowest start modules)
    where
      go : (b : Bool) → ltb (get_or rank m 0) start ≡ b → Lowest rank (get_or rank m 0) modules (foldl (earlier ltb) (get_or rank m 0) (ranks modules))
          → Lowest rank start modules (foldl (earlier ltb) start (ranks modules))
          → Lowest rank start (m ∷ modules) (foldl (earlier ltb) (cond b (get_or rank m 0) start) (ranks modules))
      go true e l _ =
          record {
            from_start = omega (arith, l.from_start, ltb-true (get_or rank m 0) start e);
            at_most = λ x i. ⊎_elim (λ s. rw s l.from_start) (λ t. l.at_most x t) (Memᴰ.cases_cons i);
            held = λ h.
                ⊎_elim
                (λ s. (m, Memᴰ.head refl, s))
                (λ u. let o = l.held u in (o.0, Memᴰ.tail o.1, o.2))
                (eq-or-lt_of_le l.from_start);
          }
      go false e _ l =
          record {
            from_start = l.from_start;
            at_most = λ x i. ⊎_elim (λ s. rw s (omega (arith, l.from_start, ltb-false (get_or rank m 0) start e))) (λ t. l.at_most x t) (Memᴰ.cases_cons i);
            held = λ h. let o = l.held h in (o.0, Memᴰ.tail o.1, o.2);
          }

  -- a module with a rank below 4,096 gives a lowest one
  pub lowest_held : (modules : List ℕ) (m : ℕ) → Memᴰ m modules → get_or rank m 0 < 4096
      → (l : ℕ) × Memᴰ l modules × (lowest_rank rank modules ≡ get_or rank l 0)
  unfolding lowest_rank
  lowest_held modules m i h = let low = fold_lowest 4096 modules in low.held (omega (arith, low.at_most m i))

  pub lowest_most : (modules : List ℕ) (m : ℕ) → Memᴰ m modules → lowest_rank rank modules ≤ get_or rank m 0
  unfolding lowest_rank
  lowest_most modules m i = (fold_lowest 4096 modules).at_most m i
