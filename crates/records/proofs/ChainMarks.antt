-- Marks along chains: a chain that is marked up to a record goes on being marked, one record more at a time, and stops where it comes to a marked one.
use Prim.Native.Nat.{ℕ, ◌≤◌}
use mathlib.Core.Bool.{true}
use mathlib.Core.List.{List, Memᴰ}
use mathlib.Core.Logic.{◌⊎◌, inl, inr, ⊎_elim}
use mathlib.Core.Path.{◌≡◌, sym, ap, ◌∙◌}
use native.Mathlib.Omega.{arith}
use lib.ListN.{get_or, set, length-set}
use lib.Seq.{get_or-set_same}
use Rattle.records.specs.Chain.{chain_from, ended}
use Rattle.records.specs.Marks.{ChainMarks}
use Rattle.lists.specs.Stored.{stored}
use Rattle.lists.proofs.Stored.{one_stored, stored_length, stored_either, stored_kept, stored_on}
use Rattle.records.proofs.Chain.{along, chain_next}

pub record_marked : {next marks : List ℕ} {d at : ℕ} (k : ℕ) → ChainMarks next d marks at → (get_or marks k 0 ≡ 0 → ⊥) → get_or marks k 0 ≡ 1
record_marked k p h = ⊎_elim (λ e. e) (λ e. absurd (h e)) (p.byte k)

-- zero is marked
pub unmarked_some : {next marks : List ℕ} {d at : ℕ} (k : ℕ) → ChainMarks next d marks at → get_or marks k 0 ≡ 0 → k ≡ 0 → ⊥
unmarked_some {next} {marks} k p e z = let o : get_or marks 0 0 ≡ 0 = ap (λ (j : ℕ). get_or marks j 0) (sym z) ∙ e in omega (arith, p.end)

module _ (next : List ℕ) (d : ℕ) (marks : List ℕ) (at : ℕ) (p : ChainMarks next d marks at) where
  -- one record more is marked
  module _ (h : get_or marks at 0 ≡ 0) (l : at ≤ d) where
    here : get_or (set marks at 1) at 0 ≡ 1
    here = let room = p.room in get_or-set_same marks at 1 0 (omega arith)

    stays : (k : ℕ) → get_or marks k 0 ≡ 1 → get_or (set marks at 1) k 0 ≡ 1
    stays k e = ⊎_elim (λ q. q.0) (λ f. f ∙ e) (one_stored 1 marks at k)

    pub marks_next : ChainMarks next d (set marks at 1) (get_or next at 0)
    marks_next =
        record {
          room = simp length-set p.room;
          byte = λ k. ⊎_elim (λ q. inl q.0) (λ f. ⊎_elim (λ e. inl (f ∙ e)) (λ e. inr (f ∙ e)) (p.byte k)) (one_stored 1 marks at k);
          end = stays 0 p.end;
          on = λ k a b e. ⊎_elim (λ q. inl (ap (λ (j : ℕ). get_or next j 0) q.1)) (λ f. old k a b (sym f ∙ e)) (one_stored 1 marks at k);
        }
      where
        old : (k : ℕ) → 1 ≤ k → k ≤ d → get_or marks k 0 ≡ 1 → (get_or next k 0 ≡ get_or next at 0) ⊎ (get_or (set marks at 1) (get_or next k 0) 0 ≡ 1)
        old k a b e = ⊎_elim (λ q. inr (ap (λ (j : ℕ). get_or (set marks at 1) j 0) q ∙ here)) (λ q. inr (stays (get_or next k 0) q)) (p.on k a b e)

  -- at a marked record no chain is left off
  module _ (h : get_or marks at 0 ≡ 1) where
    goes_on : (k : ℕ) → 1 ≤ k → k ≤ d → get_or marks k 0 ≡ 1 → get_or marks (get_or next k 0) 0 ≡ 1
    goes_on k a b e = ⊎_elim (λ q. ap (λ (j : ℕ). get_or marks j 0) q ∙ h) (λ q. q) (p.on k a b e)

    -- so it is all one where the next chain begins
    pub marks_from : (from : ℕ) → ChainMarks next d marks from
    marks_from from = record { room = p.room; byte = p.byte; end = p.end; on = λ k a b e. inr (goes_on k a b e) }

    -- and the rest of the chain is marked already
    pub rest_marked : ((r : ℕ) → 1 ≤ r → r ≤ d → get_or next r 0 ≤ d) → (fuel : ℕ) → at ≤ d → (k : ℕ) → Memᴰ k (chain_from next fuel at) → get_or marks k 0 ≡ 1
    rest_marked next_in fuel l k m = along next d next_in (λ r. get_or marks r 0 ≡ 1) goes_on fuel at l h k m

-- a chain that ends is marked whole
module _ (next : List ℕ) (d : ℕ) (marks : List ℕ) (p : ChainMarks next d marks 0) (from : ℕ) (ends : ended next d from ≡ true)
    (chain_in : (k : ℕ) → Memᴰ k (chain_from next d from) → k ≤ d) where
  pub chain_marked : ChainMarks next d (stored 1 (chain_from next d from) marks) 0
  chain_marked =
      record {
        room = rw (stored_length 1 (chain_from next d from) marks) p.room;
        byte = λ k. ⊎_elim (λ q. inl q.0) (λ f. ⊎_elim (λ e. inl (f ∙ e)) (λ e. inr (f ∙ e)) (p.byte k)) (stored_either 1 (chain_from next d from) marks k);
        end = stays 0 p.end;
        on = λ k a b e. ⊎_elim (λ q. new k q.1) (λ f. old k a b (sym f ∙ e)) (stored_either 1 (chain_from next d from) marks k);
      }
    where
      stays : (k : ℕ) → get_or marks k 0 ≡ 1 → get_or (stored 1 (chain_from next d from) marks) k 0 ≡ 1
      stays k e = stored_kept 1 (chain_from next d from) marks k e

      new : (k : ℕ) → Memᴰ k (chain_from next d from) → (get_or next k 0 ≡ 0) ⊎ (get_or (stored 1 (chain_from next d from) marks) (get_or next k 0) 0 ≡ 1)
      new k m =
          ⊎_elim inl
          (λ t. let room = p.room in let l = chain_in (get_or next k 0) t in inr (stored_on 1 (chain_from next d from) marks (get_or next k 0) (omega arith) t))
          (chain_next next d from ends k m)

      old : (k : ℕ) → 1 ≤ k → k ≤ d → get_or marks k 0 ≡ 1 → (get_or next k 0 ≡ 0) ⊎ (get_or (stored 1 (chain_from next d from) marks) (get_or next k 0) 0 ≡ 1)
      old k a b e = ⊎_elim inl (λ q. inr (stays (get_or next k 0) q)) (p.on k a b e)
