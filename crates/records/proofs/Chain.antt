-- Laws of chains: one record more, what more fuel gives once a chain has ended, the range of the records on a chain, and what they pass on.
use Prim.Native.Nat.{ℕ, zero, suc, ◌+◌, ◌≤◌}
use mathlib.Core.Bool.{Bool, true, false, ◌||◌, false≢true}
use mathlib.Core.List.Memᴰ
use mathlib.Core.List.{List, ◌∷◌, Memᴰ}
use mathlib.Core.Logic.{◌⊎◌, inl, inr, ⊎_elim}
use mathlib.Core.Path.{◌≡◌, refl, sym, ap, ◌∙◌, subst}
use native.Mathlib.Decide.{ℕ_discrete}
use native.Mathlib.Nat.{suc-add, zero-add}
use native.Mathlib.Omega.{arith}
use borrow.Author.Tests.{ne_eqb, eqb-false}
use lib.Dec.{eqb}
use lib.ListN.{get_or}
use Rattle.records.specs.Chain.{link, chain_from, ended}

-- ---- one record

pub chain_step : (next : List ℕ) (fuel r : ℕ) → (r ≡ 0 → ⊥) → chain_from next (suc fuel) r ≡ r ∷ chain_from next fuel (get_or next r 0)
unfolding chain_from link
chain_step next fuel r h = rw (ne_eqb r 0 h)

pub ended_end : (next : List ℕ) (fuel : ℕ) → ended next fuel 0 ≡ true
unfolding ended
ended_end next zero = refl
ended_end next (suc fuel) = refl

pub ended_out : (next : List ℕ) (r : ℕ) → (r ≡ 0 → ⊥) → ended next 0 r ≡ false
unfolding ended
ended_out next r h = ne_eqb r 0 h

pub ended_step : (next : List ℕ) (fuel r : ℕ) → (r ≡ 0 → ⊥) → ended next (suc fuel) r ≡ ended next fuel (get_or next r 0)
unfolding ended
ended_step next fuel r h = rw (ne_eqb r 0 h)

-- ---- fuel

-- a chain that has ended within some records has ended within more
pub ended_more : (next : List ℕ) (fuel r : ℕ) → ended next fuel r ≡ true → ended next (suc fuel) r ≡ true
unfolding ended
ended_more next zero r e = rw e
ended_more next (suc fuel) r e = go (eqb r 0) e (ended_more next fuel (get_or next r 0))
  where
    go : (b : Bool) → (b || ended next fuel (get_or next r 0)) ≡ true → (ended next fuel (get_or next r 0) ≡ true → ended next (suc fuel) (get_or next r 0) ≡ true) → (b || ended next (suc fuel) (get_or next r 0)) ≡ true
    go true f rest = refl
    go false f rest = rest f

-- and more fuel gives the same list
pub chain_more : (next : List ℕ) (fuel r : ℕ) → ended next fuel r ≡ true → chain_from next (suc fuel) r ≡ chain_from next fuel r
unfolding chain_from ended link
chain_more next zero r e = rw e
chain_more next (suc fuel) r e = go (eqb r 0) e (chain_more next fuel (get_or next r 0))
  where
    go : (b : Bool) → (b || ended next fuel (get_or next r 0)) ≡ true → (ended next fuel (get_or next r 0) ≡ true → chain_from next (suc fuel) (get_or next r 0) ≡ chain_from next fuel (get_or next r 0)) → link b r (chain_from next (suc fuel) (get_or next r 0)) ≡ link b r (chain_from next fuel (get_or next r 0))
    go true f rest = refl
    go false f rest = ap (λ (l : List ℕ). r ∷ l) (rest f)

pub chain_fuel : (next : List ℕ) (fuel more r : ℕ) → ended next fuel r ≡ true → chain_from next (more + fuel) r ≡ chain_from next fuel r
chain_fuel next fuel zero r e = ap (λ (k : ℕ). chain_from next k r) (zero-add fuel)
chain_fuel next fuel (suc more) r e =
    ap (λ (k : ℕ). chain_from next k r) (suc-add more fuel) ∙ chain_more next (more + fuel) r (ended_fuel more) ∙ chain_fuel next fuel more r e
  where
    ended_fuel : (more : ℕ) → ended next (more + fuel) r ≡ true
    ended_fuel zero = ap (λ (k : ℕ). ended next k r) (zero-add fuel) ∙ e
    ended_fuel (suc more) = ap (λ (k : ℕ). ended next k r) (suc-add more fuel) ∙ ended_more next (more + fuel) r (ended_fuel more)

-- so along a chain that ends the fuel stays what it is: the rest of the chain ends within it too, and the chain is the record and the rest
pub rest_ended : (next : List ℕ) (fuel r : ℕ) → (r ≡ 0 → ⊥) → ended next fuel r ≡ true → ended next fuel (get_or next r 0) ≡ true
rest_ended next zero r h e = absurd (false≢true (sym (ended_out next r h) ∙ e))
rest_ended next (suc fuel) r h e = ended_more next fuel (get_or next r 0) (sym (ended_step next fuel r h) ∙ e)

pub chain_rest : (next : List ℕ) (fuel r : ℕ) → (r ≡ 0 → ⊥) → ended next fuel r ≡ true → chain_from next fuel r ≡ r ∷ chain_from next fuel (get_or next r 0)
chain_rest next zero r h e = absurd (false≢true (sym (ended_out next r h) ∙ e))
chain_rest next (suc fuel) r h e =
    let rest : ended next fuel (get_or next r 0) ≡ true = sym (ended_step next fuel r h) ∙ e in
    chain_step next fuel r h ∙ ap (λ (l : List ℕ). r ∷ l) (sym (chain_more next fuel (get_or next r 0) rest))

-- ---- range

-- where no next leads out of the table, every record on a chain that starts in it is one of the table's
pub chain_in : (next : List ℕ) (d : ℕ) → ((r : ℕ) → 1 ≤ r → r ≤ d → get_or next r 0 ≤ d) → (fuel r : ℕ) → r ≤ d → (k : ℕ) → Memᴰ k (chain_from next fuel r) → (1 ≤ k) × (k ≤ d)
unfolding chain_from link
chain_in next d step zero r h k m = absurd (Memᴰ.not-nil m)
chain_in next d step (suc fuel) r h k m = go (eqb r 0) refl m (chain_in next d step fuel (get_or next r 0))
  where
    go : (b : Bool) → eqb r 0 ≡ b → Memᴰ k (link b r (chain_from next fuel (get_or next r 0))) → (get_or next r 0 ≤ d → (k : ℕ) → Memᴰ k (chain_from next fuel (get_or next r 0)) → (1 ≤ k) × (k ≤ d)) → (1 ≤ k) × (k ≤ d)
    go true e m rest = absurd (Memᴰ.not-nil m)
    go false e m rest =
        let some : 1 ≤ r = omega (arith, eqb-false r 0 e) in
        ⊎_elim (λ q. (omega arith, omega arith)) (λ t. rest (step r some h) k t) (Memᴰ.cases_cons m)

-- ---- along a chain

module _ (next : List ℕ) where
  -- what a record has and passes on to its next, all records of its chain have
  pub along : (d : ℕ) → ((r : ℕ) → 1 ≤ r → r ≤ d → get_or next r 0 ≤ d) → (R : ℕ → Type 0) → ((r : ℕ) → 1 ≤ r → r ≤ d → R r → R (get_or next r 0))
      → (fuel r : ℕ) → r ≤ d → R r → (k : ℕ) → Memᴰ k (chain_from next fuel r) → R k
  unfolding chain_from link
  along d step R pass zero r h here k m = absurd (Memᴰ.not-nil m)
  along d step R pass (suc fuel) r h here k m = go (eqb r 0) refl m (along d step R pass fuel (get_or next r 0))
    where
      go : (b : Bool) → eqb r 0 ≡ b → Memᴰ k (link b r (chain_from next fuel (get_or next r 0)))
          → (get_or next r 0 ≤ d → R (get_or next r 0) → (k : ℕ) → Memᴰ k (chain_from next fuel (get_or next r 0)) → R k) → R k
      go true e m rest = absurd (Memᴰ.not-nil m)
      go false e m rest =
          let some : 1 ≤ r = omega (arith, eqb-false r 0 e) in
          ⊎_elim (λ q. subst R (sym q) here) (λ t. rest (step r some h) (pass r some h here) k t) (Memᴰ.cases_cons m)

  -- a chain that ends begins with its first record, unless that is the end
  pub chain_first : (fuel r : ℕ) → ended next fuel r ≡ true → (r ≡ 0) ⊎ Memᴰ r (chain_from next fuel r)
  chain_first fuel r e = go (ℕ_discrete r 0)
    where
      go : Dec (r ≡ 0) → (r ≡ 0) ⊎ Memᴰ r (chain_from next fuel r)
      go (yes z) = inl z
      go (no z) = inr (subst (Memᴰ r) (sym (chain_rest next fuel r z e)) (Memᴰ.head refl))

  -- the next of a record on it is on it too, unless it is the end
  pub chain_next : (fuel r : ℕ) → ended next fuel r ≡ true → (k : ℕ) → Memᴰ k (chain_from next fuel r)
      → (get_or next k 0 ≡ 0) ⊎ Memᴰ (get_or next k 0) (chain_from next fuel r)
  unfolding chain_from link ended
  chain_next zero r e k m = absurd (Memᴰ.not-nil m)
  chain_next (suc fuel) r e k m = go (eqb r 0) e m (chain_next fuel (get_or next r 0))
    where
      go : (b : Bool) → (b || ended next fuel (get_or next r 0)) ≡ true → Memᴰ k (link b r (chain_from next fuel (get_or next r 0)))
          → (ended next fuel (get_or next r 0) ≡ true → (k : ℕ) → Memᴰ k (chain_from next fuel (get_or next r 0))
          → (get_or next k 0 ≡ 0) ⊎ Memᴰ (get_or next k 0) (chain_from next fuel (get_or next r 0)))
          → (get_or next k 0 ≡ 0) ⊎ Memᴰ (get_or next k 0) (link b r (chain_from next fuel (get_or next r 0)))
      go true f m rest = absurd (Memᴰ.not-nil m)
      go false f m rest =
          ⊎_elim
          (λ q. subst (λ (x : ℕ). (get_or next x 0 ≡ 0) ⊎ Memᴰ (get_or next x 0) (r ∷ chain_from next fuel (get_or next r 0))) (sym q)
          (⊎_elim inl (λ t. inr (Memᴰ.tail t)) (chain_first fuel (get_or next r 0) f)))
          (λ t. ⊎_elim inl (λ u. inr (Memᴰ.tail u)) (rest f k t))
          (Memᴰ.cases_cons m)
