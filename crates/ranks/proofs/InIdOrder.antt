-- Modules that were put in id order: what they can be asked for, and whether two of them share an id.
use Prim.Native.Nat.{ℕ, ◌<◌}
use mathlib.Core.Bool.{Bool, false, true≢false}
use mathlib.Core.List.{List, Memᴰ}
use mathlib.Core.Path.{◌≡◌, sym, ap, ◌∙◌, subst}
use native.Mathlib.Omega.{arith}
use lib.ListN.{length, get_or}
use Rattle.lists.specs.Sort.{sort_by}
use Rattle.lists.proofs.Pairs.{pairs_at}
use Rattle.lists.proofs.Position.{get_or_mem}
use Rattle.lists.proofs.Rearranged.{sort_perm, perm_length}
use Rattle.lists.proofs.Sort.{sort_mem}
use Rattle.lists.proofs.Sorted.{Sorted}
use Rattle.orders.specs.ById.{by_id, Named}
use Rattle.orders.proofs.Naming.{named_within}
use Rattle.orders.proofs.Orders.{by_id_lem}
use Rattle.exec_order.specs.AnyTwo.{any_two}
use Rattle.ranks.specs.ById.{same_id, neighbours_tie, HasRanks, Rankable}
use Rattle.ranks.proofs.SameIds.{in_id_order_lem, untied_rises, ties_share}

module _ (bytes offsets list : List ℕ) {list' : List ℕ} (sorted : list' ≡ sort_by (by_id bytes offsets) list) where
  member : (m : ℕ) → Memᴰ m list' → Memᴰ m list
  member m i = sort_mem (by_id bytes offsets) list m (subst (λ (l : List ℕ). Memᴰ m l) sorted i)

  pub sorted_named : Named bytes offsets list → Named bytes offsets list'
  sorted_named n = named_within bytes offsets n member

  pub sorted_shares : {r : Bool} → r ≡ neighbours_tie bytes offsets list' → r ≡ any_two (same_id bytes offsets) list
  sorted_shares e = e ∙ ap (neighbours_tie bytes offsets) sorted ∙ ties_share bytes offsets list

  pub sorted_ranks : {rank : List ℕ} → Rankable bytes offsets list rank → neighbours_tie bytes offsets list' ≡ false → HasRanks list' rank
  sorted_ranks {rank} given e =
      record {
        few = omega (arith, given.few, ap length sorted, perm_length (sort_perm (by_id bytes offsets) list));
        distinct = apart;
        has_rank = λ i h. given.has_rank (get_or list' i 0) (member (get_or list' i 0) (get_or_mem list' i 0 h));
      }
    where
      in_order : Sorted (by_id bytes offsets) list'
      in_order = subst (λ (l : List ℕ). Sorted (by_id bytes offsets) l) (sym sorted) (in_id_order_lem bytes offsets list)

      apart : (i j : ℕ) → i < j → j < length list' → get_or list' i 0 ≡ get_or list' j 0 → ⊥
      apart i j u v q =
          true≢false
          (sym (pairs_at (untied_rises bytes offsets list' in_order e) i j 0 u v)
          ∙ ap (λ (m : ℕ). by_id bytes offsets m (get_or list' j 0)) q
          ∙ (by_id_lem bytes offsets).irrefl (get_or list' j 0))
