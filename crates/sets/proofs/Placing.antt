-- The loop that writes the place of each module: one module more a turn, and none twice.
use Prim.Native.Nat.{ℕ, ◌+◌, ◌≤◌, ◌<◌}
use mathlib.Core.List.{List}
use mathlib.Core.Logic.{⊎_elim}
use mathlib.Core.Path.{◌≡◌, refl, sym, ap, ◌∙◌}
use native.Mathlib.Decide.{dec_lt}
use native.Mathlib.Nat.{not-suc-le-zero}
use native.Mathlib.Omega.{arith}
use lib.ListN.{length, get_or, set, length-set}
use lib.Seq.{get_or-set_same, get_or-set_other}
use Rattle.lists.proofs.Pairs.{pairs_at}
use Rattle.lists.proofs.Stored.{one_stored}
use Rattle.sets.specs.Gathered.{PlacesFree, PlacesAre}

-- the places of the first i modules
pub record Placing (order place₀ : List ℕ) (i : ℕ) (place : List ℕ) : Type 0 where
  pub within : i ≤ length order
  pub same_length : length place ≡ length place₀
  pub small : (m : ℕ) → get_or place m 0 < 4096
  pub at : (j : ℕ) → j < i → get_or place (get_or order j 0) 0 ≡ j

module _ {order place₀ : List ℕ} (f : PlacesFree order place₀) where
  pub none_placed : Placing order place₀ 0 place₀
  none_placed = record { within = omega arith; same_length = refl; small = f.small; at = λ j h. absurd (not-suc-le-zero h) }

  module _ {i : ℕ} {place : List ℕ} (p : Placing order place₀ i place) where
    module _ (h : i < length order) where
      abbrev m : ℕ
      m = get_or order i 0

      pub module_in : m < length place
      module_in = omega (arith, f.room i h, p.same_length)

      pub one_placed : Placing order place₀ (i + 1) (set place m i)
      one_placed =
          record {
            within = omega arith;
            same_length = simp length-set p.same_length;
            small = λ k. ⊎_elim (λ q. let few = f.few in omega (arith, q.0)) (λ q. omega (arith, q, p.small k)) (one_stored i place m k);
            at = λ j l. here j l (dec_lt j i);
          }
        where
          here : (j : ℕ) → j < i + 1 → Dec (j < i) → get_or (set place m i) (get_or order j 0) 0 ≡ j
          here j l (yes b) = get_or-set_other place m (get_or order j 0) i 0 (pairs_at f.distinct j i 0 b h) ∙ p.at j b
          here j l (no b) =
              let e : j ≡ i = omega arith in
              ap (λ (k : ℕ). get_or (set place m i) (get_or order k 0) 0) e ∙ get_or-set_same place m i 0 module_in ∙ sym e

    pub all_placed : length order ≤ i → PlacesAre order place
    all_placed h = record { at = λ j l. p.at j (omega arith); small = p.small }
