-- Records that are known to end: none but zero at first; with a chain that ends, all its records; and what is known of the record at which a
-- chain is left tells whether the chain ends.
use Prim.Native.Nat.{ℕ, zero, suc, ◌+◌, ◌-◌, ◌≤◌, ◌<◌}
use mathlib.Core.Bool.{true, false}
use mathlib.Core.List.{List, Memᴰ}
use mathlib.Core.Logic.{inl, inr, ⊎_elim}
use mathlib.Core.Path.{◌≡◌, refl, sym, ap, ◌∙◌}
use native.Mathlib.Nat.{not-suc-le-zero}
use native.Mathlib.Omega.{arith}
use lib.ListN.{get_or, set, replicate, length-replicate, length-set}
use Rattle.records.specs.Chain.{chain_from, ended}
use Rattle.records.specs.Marks.{ChainMarks, Known}
use Rattle.lists.specs.Stored.{stored}
use Rattle.records.proofs.Chain.{along, chain_in, ended_end, ended_out, ended_step, rest_ended}
use Rattle.records.proofs.Ends.{ends_within}
use Rattle.records.proofs.ChainMarks.{chain_marked}
use Rattle.lists.proofs.Stored.{zeros, one_stored, stored_either}

module _ (next : List ℕ) (d : ℕ) where
  -- a table of zeros with zero marked
  module _ (n : ℕ) (h : d < n) where
    pub only_zero : (k : ℕ) → get_or {A = ℕ} (set (replicate n 0) 0 1) k 0 ≡ 1 → k ≡ 0
    only_zero k e = ⊎_elim (λ q. q.1) (λ f. let z = zeros n k in absurd (omega arith)) (one_stored 1 (replicate n 0) 0 k)

    pub marks_none : ChainMarks next d (set (replicate n 0) 0 1) 0
    marks_none =
        record {
          room = simp (length-set, length-replicate) h;
          byte = λ k. ⊎_elim (λ q. inl q.0) (λ f. inr (f ∙ zeros n k)) (one_stored 1 (replicate n 0) 0 k);
          end = zero_marked n h;
          on = λ k a b e. let q = only_zero k e in absurd (omega arith);
        }
      where
        zero_marked : (n : ℕ) → d < n → get_or {A = ℕ} (set (replicate n 0) 0 1) 0 0 ≡ 1
        zero_marked zero l = absurd (not-suc-le-zero l)
        zero_marked (suc n) l = refl

    pub known_none : Known next d (set (replicate n 0) 0 1)
    known_none = record { marks = marks_none; ends = λ r l e. ap (ended next d) (only_zero r e) ∙ ended_end next d }

  module _ (next_in : (r : ℕ) → 1 ≤ r → r ≤ d → get_or next r 0 ≤ d) where
    -- one chain more that ends
    pub known_more : (known : List ℕ) → Known next d known → (from : ℕ) → from ≤ d → ended next d from ≡ true
        → Known next d (stored 1 (chain_from next d from) known)
    known_more known p from h e =
        record {
          marks = chain_marked next d known p.marks from e (λ k m. (chain_in next d next_in d from h k m).1);
          ends = λ r l f. ⊎_elim (λ q. rest_ends r q.1) (λ q. p.ends r l (sym q ∙ f)) (stored_either 1 (chain_from next d from) known r);
        }
      where
        rest_ends : (r : ℕ) → Memᴰ r (chain_from next d from) → ended next d r ≡ true
        rest_ends r m = along next d next_in (λ k. ended next d k ≡ true) (λ k a b z. rest_ended next d k (λ o. omega arith) z) d from h e r m

  -- ---- along the chain from `start`, with `left` of d records left at record r

  abbrev pub Along : ℕ → ℕ → ℕ → Type 0
  Along start left r = (k : ℕ) → ended next (k + (d - left)) start ≡ ended next k r

  pub along_start : (start : ℕ) → Along start d start
  along_start start k = let none : k + (d - d) ≡ k = omega arith in ap (λ (f : ℕ). ended next f start) none

  pub along_next : (start left r : ℕ) → Along start left r → (left ≡ 0 → ⊥) → left ≤ d → (r ≡ 0 → ⊥) → Along start (left - 1) (get_or next r 0)
  along_next start left r p h l g k =
      let fuel : k + (d - (left - 1)) ≡ suc k + (d - left) = omega arith in
      ap (λ (f : ℕ). ended next f start) fuel ∙ p (suc k) ∙ ended_step next k r g

  -- the two ways out: at a record that is known to end, and with no record left
  pub along_known : ((r : ℕ) → 1 ≤ r → r ≤ d → get_or next r 0 ≤ d) → (start left r : ℕ) → Along start left r → start ≤ d → ended next d r ≡ true
      → ended next d start ≡ true
  along_known next_in start left r p h e = ends_within next d next_in (d + (d - left)) start h (p d ∙ e)

  pub along_none : (start left r : ℕ) → Along start left r → left ≡ 0 → (r ≡ 0 → ⊥) → ended next d start ≡ false
  along_none start left r p h g =
      let fuel : d ≡ 0 + (d - left) = omega arith in
      ap (λ (f : ℕ). ended next f start) fuel ∙ p 0 ∙ ended_out next r g
