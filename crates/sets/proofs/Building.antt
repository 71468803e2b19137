-- The modules of a run at the front of an area.
use Prim.Native.Nat.{ℕ, ◌<◌, ◌≤◌}
use mathlib.Core.List.{List, ◌++◌}
use mathlib.Core.Path.{◌≡◌, sym, ap, ◌∙◌, subst}
use native.Mathlib.Omega.{arith}
use lib.ListN.{length, get_or, take, drop, length-map}
use lib.Seq.{length_front}
use Rattle.lists.specs.Packed.{item_of}
use Rattle.lists.proofs.Map.{get_or_map_below}
use Rattle.lists.specs.Area.{Holds}
use Rattle.matching.proofs.Writing.{front}
use Rattle.sets.specs.Built.{start_at, starts_of, Placed}
use Rattle.sets.specs.Captured.{StartsIn}

module _ (order run : List ℕ) where
  pub starts_length : length (starts_of order run) ≡ length run
  starts_length = length-map run (start_at order)

  module _ {stored : List ℕ} (rest : List ℕ) (e : stored ≡ starts_of order run) where
    pub stored_starts : take (length run) (stored ++ rest) ≡ starts_of order run
    stored_starts = front rest (length run) e starts_length

    pub holds_starts : Holds (starts_of order run) (length run) (stored ++ rest)
    holds_starts = record { number = sym starts_length; entries = stored_starts }

    pub stored_length : length run ≡ length (take (length run) (stored ++ rest))
    stored_length = sym (ap length stored_starts ∙ starts_length)

    -- each of them is a module
    pub stored_in : (n : ℕ) → ((i : ℕ) → i < length order → get_or order i 0 < n) → Placed run order → StartsIn (take (length run) (stored ++ rest)) n
    stored_in n modules placed = subst (λ (l : List ℕ). StartsIn l n) (sym stored_starts) inside
      where
        inside : StartsIn (starts_of order run) n
        inside i h =
            let b : i < length run = omega (arith, starts_length) in
            subst (λ (x : ℕ). x < n) (sym (get_or_map_below (start_at order) run i 0 0 b)) (modules (item_of (get_or run i 0)) (placed i b))

-- the area is as long as before
pub front_room : (area stored : List ℕ) (n : ℕ) → length stored ≡ length (take n area) → {k : ℕ} → k ≤ length area → k ≤ length (stored ++ drop n area)
front_room area stored n e {k} h = subst (λ (m : ℕ). k ≤ m) (sym (length_front area stored n e)) h
