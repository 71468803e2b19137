-- A chain that ends at all ends within d records: its records are among 1 to d, and none stands on it twice, since what follows a record
-- ends after as many records wherever it stands.
use Prim.Native.Nat.{ℕ, zero, suc, ◌+◌, ◌-◌, ◌≤◌, ◌<◌}
use mathlib.Core.Bool.{Bool, true, false, ◌||◌, or-true}
use mathlib.Core.List.{List}
use mathlib.Core.Path.{◌≡◌, refl, sym, ap, ◌∙◌}
use native.Mathlib.Decide.{dec_lt}
use native.Mathlib.Nat.{add-zero, add-suc, not-suc-le-zero, le_of_suc-le-suc}
use native.Mathlib.Omega.{arith}
use borrow.Author.Tests.{eqb-true, eqb-false}
use lib.Dec.{eqb}
use lib.ListN.{get_or}
use Rattle.lists.proofs.Pigeonhole.{hits}
use Rattle.records.specs.Chain.{ended}
use Rattle.records.proofs.Chain.{ended_end}

-- the record that stands i records after r
unfoldable after : List ℕ → ℕ → ℕ → ℕ
after next zero r = r
after next (suc i) r = after next i (get_or next r 0)

module _ (next : List ℕ) where
  after_add : (k i r : ℕ) → after next (k + i) r ≡ after next k (after next i r)
  unfolding after
  after_add k zero r = rw (add-zero k)
  after_add k (suc i) r = rw (add-suc k i) (after_add k i (get_or next r 0))

  -- the first zero of a chain that ends
  record FirstZero (r : ℕ) : Type 0 where
    at : ℕ
    is_zero : after next at r ≡ 0
    none_before : (i : ℕ) → i < at → after next i r ≡ 0 → ⊥

  zero_here : (r : ℕ) → r ≡ 0 → FirstZero r
  unfolding after
  zero_here r e = record { at = 0; is_zero = e; none_before = λ i l. absurd (not-suc-le-zero l) }

  zero_later : (r : ℕ) → (r ≡ 0 → ⊥) → FirstZero (get_or next r 0) → FirstZero r
  unfolding after
  zero_later r h z = record { at = suc z.at; is_zero = z.is_zero; none_before = before }
    where
      before : (i : ℕ) → i < suc z.at → after next i r ≡ 0 → ⊥
      before zero l = h
      before (suc i) l = z.none_before i (le_of_suc-le-suc l)

  first_zero : (fuel r : ℕ) → ended next fuel r ≡ true → FirstZero r
  unfolding ended
  first_zero zero r e = zero_here r (eqb-true r 0 e)
  first_zero (suc fuel) r e = go (eqb r 0) refl e (first_zero fuel (get_or next r 0))
    where
      go : (b : Bool) → eqb r 0 ≡ b → (b || ended next fuel (get_or next r 0)) ≡ true
          → (ended next fuel (get_or next r 0) ≡ true → FirstZero (get_or next r 0)) → FirstZero r
      go true q f rest = zero_here r (eqb-true r 0 q)
      go false q f rest = zero_later r (eqb-false r 0 q) (rest f)

  -- a zero within the fuel ends the chain
  zero_ends : (i fuel r : ℕ) → i ≤ fuel → after next i r ≡ 0 → ended next fuel r ≡ true
  unfolding after ended
  zero_ends zero fuel r h e = ap (ended next fuel) e ∙ ended_end next fuel
  zero_ends (suc i) zero r h e = absurd (not-suc-le-zero h)
  zero_ends (suc i) (suc fuel) r h e = rw (zero_ends i fuel (get_or next r 0) (le_of_suc-le-suc h) e) (or-true (eqb r 0))

  module _ (d : ℕ) (next_in : (r : ℕ) → 1 ≤ r → r ≤ d → get_or next r 0 ≤ d) where
    after_in : (i r : ℕ) → r ≤ d → ((k : ℕ) → k < i → after next k r ≡ 0 → ⊥) → after next i r ≤ d
    unfolding after
    after_in zero r h some = h
    after_in (suc i) r h some =
        let here : r ≡ 0 → ⊥ = some 0 (omega arith) in
        after_in i (get_or next r 0) (next_in r (omega arith) h) (λ k l. some (suc k) (omega arith))

    module _ (r : ℕ) (h : r ≤ d) (z : FirstZero r) where
      -- a record that stood twice before the zero would be followed by it too soon
      not_twice : (l m : ℕ) → l < m → m ≤ z.at → after next l r ≡ after next m r → ⊥
      not_twice l m b w e =
          let rest = z.at - m in
          let whole : rest + m ≡ z.at = omega arith in
          z.none_before (rest + l) (omega arith)
          (after_add rest l r ∙ ap (after next rest) e ∙ sym (after_add rest m r) ∙ ap (λ (k : ℕ). after next k r) whole ∙ z.is_zero)

      apart : (l m : ℕ) → l ≤ z.at → m ≤ z.at → after next l r ≡ after next m r → l ≡ m
      apart l m p q e = go (dec_lt l m) (dec_lt m l)
        where
          go : Dec (l < m) → Dec (m < l) → l ≡ m
          go (yes b) c = absurd (not_twice l m b q e)
          go (no b) (yes c) = absurd (not_twice m l c p (sym e))
          go (no b) (no c) = omega arith

      -- so the zero comes within d records: else the d + 1 first ones would be 1 to d
      zero_within : z.at ≤ d
      zero_within = go (dec_lt d z.at)
        where
          go : Dec (d < z.at) → z.at ≤ d
          go (no b) = omega arith
          go (yes b) =
              let o = hits (suc d) (λ m. after next m r) in_table distinct 0 (omega arith) in
              absurd (z.none_before o.0 (omega (arith, o.1)) o.2)
            where
              in_table : (m : ℕ) → m < suc d → after next m r < suc d
              in_table m l = let w = after_in m r h (λ k n. z.none_before k (omega arith)) in omega arith

              distinct : (l m : ℕ) → l < suc d → m < suc d → after next l r ≡ after next m r → l ≡ m
              distinct l m p q e = apart l m (omega arith) (omega arith) e

    pub ends_within : (fuel r : ℕ) → r ≤ d → ended next fuel r ≡ true → ended next d r ≡ true
    ends_within fuel r h e = let z = first_zero fuel r e in zero_ends z.at d r (zero_within r h z) z.is_zero
