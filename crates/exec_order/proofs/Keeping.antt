-- Modules that are kept in the first entries of an area: each is written behind them, and counted where it passes.
use Prim.Native.Nat.{ℕ, ◌+◌, ◌≤◌, ◌<◌}
use mathlib.Core.List.{List, [], ◌∷◌, ◌++◌}
use mathlib.Core.Path.{◌≡◌, refl, sym, ap, ◌∙◌}
use native.Mathlib.Numerals.{add-one}
use native.Mathlib.Omega.{arith}
use lib.ListN.{length, take, set, length-append, length-set}
use lib.Seq.{take-suc-set, take-set-le}
use Rattle.exec_order.specs.Listed.{Kept}

pub none_kept : (area : List ℕ) → Kept [] 0 area area
none_kept area = record { count = refl; first = refl; same_length = refl }

module _ {l : List ℕ} {r : ℕ} {entry area : List ℕ} (k : Kept l r entry area) (v : ℕ) where
  pub kept_in : r < length area → Kept (l ++ (v ∷ [])) (r + 1) entry (set area r v)
  kept_in h =
      record {
        count = rw (length-append l (v ∷ []), add-one (length l), add-one r) (cc);
        first = rw (add-one r, take-suc-set area r v h, k.first);
        same_length = rw length-set k.same_length;
      }

  pub kept_out : Kept l r entry (set area r v)
  kept_out =
      record { count = k.count; first = take-set-le r area r v (omega arith) ∙ k.first; same_length = rw length-set k.same_length }

-- what is kept of an area that has room for it, as a part of the area
module _ {l : List ℕ} {r : ℕ} {entry area : List ℕ} (k : Kept l r entry area) where
  pub kept_fits : length l ≤ length entry → r ≤ length area
  kept_fits h = omega (arith, k.count, k.same_length)

  pub kept_length : r ≡ length (take r area)
  kept_length = k.count ∙ sym (ap length k.first)
