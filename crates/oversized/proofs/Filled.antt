-- A table that is filled one entry a turn.
use Prim.Native.Nat.{ℕ, ◌+◌, ◌≤◌, ◌<◌}
use mathlib.Core.List.{List}
use mathlib.Core.Path.{◌≡◌, sym, ap, ◌∙◌}
use native.Mathlib.Decide.{ℕ_discrete}
use native.Mathlib.Omega.{arith}
use lib.ListN.{length, get_or, set}
use lib.Seq.{get_or-set_same, get_or-set_other}

module _ {A : Type 0} (d : A) (f : ℕ → A) (from : ℕ) where
  -- the entries from `from` to i
  abbrev pub Filled : List A → ℕ → Type 0
  Filled l i = (k : ℕ) → from ≤ k → k < i → get_or l k d ≡ f k

  pub one_filled : (l : List A) (i : ℕ) (v : A) → i < length l → v ≡ f i → Filled l i → Filled (set l i v) (i + 1)
  one_filled l i v inside e so_far k low h = go (ℕ_discrete k i)
    where
      go : Dec (k ≡ i) → get_or (set l i v) k d ≡ f k
      go (yes q) = ap (λ (j : ℕ). get_or (set l i v) j d) q ∙ get_or-set_same l i v d inside ∙ e ∙ ap f (sym q)
      go (no q) = get_or-set_other l i k v d q ∙ so_far k low (omega arith)
