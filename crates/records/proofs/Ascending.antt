-- Where records ascend every chain ends: from record r on, no more than d + 1 - r records can stand on it.
use Prim.Native.Nat.{ℕ, zero, suc, ◌+◌, ◌≤◌, ◌<◌}
use mathlib.Core.Bool.{true, false, not, ◌||◌}
use mathlib.Core.List.{List}
use mathlib.Core.Logic.{◌⊎◌, inl, inr, ⊎_elim}
use mathlib.Core.Path.{◌≡◌, refl, ap, ◌∙◌}
use native.Mathlib.Omega.{arith}
use borrow.Author.Tests.{ltb-true}
use lib.Dec.{eqb, ltb, eqb-suc-zero}
use lib.ListN.{get_or}
use Rattle.lists.proofs.Below.{all_of, any_none}
use Rattle.records.specs.Chain.{ended}
use Rattle.records.specs.Ascending.{all_ascend}
use Rattle.records.specs.Bad.{bad_chain}
use Rattle.records.proofs.Chain.{ended_end, ended_step}

-- what the test says of record r with the next x
later : (r x : ℕ) → (eqb x 0 || ltb r x) ≡ true → (x ≡ 0) ⊎ (r < x)
later r zero e = inl refl
later r (suc x) e = inr (ltb-true r (suc x) (rw (eqb-suc-zero x) at e))

module _ (next : List ℕ) (d : ℕ) (e : all_ascend next d ≡ true) (next_in : (r : ℕ) → 1 ≤ r → r ≤ d → get_or next r 0 ≤ d) where
  ascends : (k : ℕ) → k < d → (get_or next (suc k) 0 ≡ 0) ⊎ (suc k < get_or next (suc k) 0)
  unfolding all_ascend
  ascends k h =
      later (suc k) (get_or next (suc k) 0) (all_of (λ k. eqb (get_or next (suc k) 0) 0 || ltb (suc k) (get_or next (suc k) 0)) d e k h)

  -- fewer and fewer records come after, so the chain has its zero before they are used up
  ends_after : (fuel r : ℕ) → r ≤ d → d < fuel + r → ended next fuel r ≡ true
  ends_after zero r h l = absurd (omega arith)
  ends_after (suc fuel) zero h l = ended_end next (suc fuel)
  ends_after (suc fuel) (suc k) h l =
      ended_step next fuel (suc k) (λ z. omega arith)
      ∙ ⊎_elim
      (λ z. ap (ended next fuel) z ∙ ended_end next fuel)
      (λ up. ends_after fuel (get_or next (suc k) 0) (next_in (suc k) (omega arith) h) (omega arith))
      (ascends k h)

  ascending_ends : (r : ℕ) → r ≤ d → ended next d r ≡ true
  ascending_ends zero h = ended_end next d
  ascending_ends (suc k) h = ends_after d (suc k) h (omega arith)

  -- so no chain is bad
  pub none_bad : (first : List ℕ) (n : ℕ) → ((m : ℕ) → m < n → get_or first m 0 ≤ d) → bad_chain first next n d ≡ false
  unfolding bad_chain
  none_bad first n first_in = any_none (λ m. not (ended next d (get_or first m 0))) n (λ m h. ap not (ascending_ends (get_or first m 0) (first_in m h)))
