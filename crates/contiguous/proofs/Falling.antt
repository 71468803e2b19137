-- Chains along which each record is followed by a lower one: they end, and they depend on no record above the one that they begin with.
use Prim.Native.Nat.{ℕ, zero, suc, ◌+◌, ◌-◌, ◌≤◌, ◌<◌}
use mathlib.Core.Bool.{true}
use mathlib.Core.List.Memᴰ
use mathlib.Core.List.{List, [], ◌∷◌, map, Memᴰ}
use mathlib.Core.Path.{◌≡◌, refl, sym, ap, ◌∙◌, subst}
use native.Mathlib.Omega.{arith}
use lib.ListN.{get_or}
use Rattle.lists.proofs.Members.{map_same}
use Rattle.records.specs.Chain.{link, chain_from, ended}
use Rattle.walk.specs.Chains.{named_from}
use Rattle.records.proofs.Chain.{chain_step, chain_in, chain_fuel, ended_end, ended_step}
use Rattle.contiguous.specs.Laid.{laid_from, Falls}

-- a chain that begins with zero is empty, and so is one of no records
chain_none : (next : List ℕ) (fuel : ℕ) → chain_from next fuel 0 ≡ []
unfolding chain_from link
chain_none next zero = refl
chain_none next (suc fuel) = refl

no_fuel : (next : List ℕ) (r : ℕ) → chain_from next 0 r ≡ []
unfolding chain_from
no_fuel next r = refl

pub none_laid : (dependency next : List ℕ) (fuel k : ℕ) → Memᴰ k (named_from dependency next fuel 0) → ⊥
none_laid dependency next fuel k m =
    Memᴰ.not-nil (subst (λ (c : List ℕ). Memᴰ k (map (λ q. get_or dependency q 0) c)) (chain_none next fuel) m)

module _ (next : List ℕ) (end : ℕ) (falls : Falls next end) where
  -- as many records as its number are enough
  pub falling_ends : (fuel r : ℕ) → r ≤ fuel → r < end → ended next fuel r ≡ true
  falling_ends zero r h l = let none : r ≡ 0 = omega arith in ap (ended next 0) none ∙ ended_end next 0
  falling_ends (suc fuel) zero h l = ended_end next (suc fuel)
  falling_ends (suc fuel) (suc r) h l =
      let lower = falls (suc r) (omega arith) l in
      ended_step next fuel (suc r) (λ z. omega arith) ∙ falling_ends fuel (get_or next (suc r) 0) (omega arith) (omega arith)

  -- and more of them give the same chain
  pub falling_fuel : (fuel r : ℕ) → r ≤ fuel → r < end → chain_from next fuel r ≡ chain_from next r r
  falling_fuel fuel r h l =
      let more : (fuel - r) + r ≡ fuel = omega arith in
      sym (ap (λ (k : ℕ). chain_from next k r) more) ∙ chain_fuel next r (fuel - r) r (falling_ends r r (omega arith) l)

  -- no record on it lies above the one that it begins with
  pub falling_in : (fuel r : ℕ) → r < end → (k : ℕ) → Memᴰ k (chain_from next fuel r) → k ≤ r
  falling_in fuel r l k m =
      (chain_in next r (λ q h g. let lower = falls q h (omega arith) in omega arith) fuel r (omega arith) k m).1

  -- so other tables that are the same below `end` give the same chain
  module _ (next' : List ℕ) (same : (q : ℕ) → q < end → get_or next' q 0 ≡ get_or next q 0) where
    pub chain_same : (fuel r : ℕ) → r < end → chain_from next' fuel r ≡ chain_from next fuel r
    chain_same zero r l = no_fuel next' r ∙ sym (no_fuel next r)
    chain_same (suc fuel) zero l = chain_none next' (suc fuel) ∙ sym (chain_none next (suc fuel))
    chain_same (suc fuel) (suc r) l =
        let lower = falls (suc r) (omega arith) l in
        let some : suc r ≡ 0 → ⊥ = λ z. omega arith in
        chain_step next' fuel (suc r) some
        ∙ ap (λ (x : ℕ). suc r ∷ chain_from next' fuel x) (same (suc r) l)
        ∙ ap (λ (c : List ℕ). suc r ∷ c) (chain_same fuel (get_or next (suc r) 0) (omega arith))
        ∙ sym (chain_step next fuel (suc r) some)

    -- and name the same modules
    pub laid_same : (dependency dependency' : List ℕ) → ((q : ℕ) → q < end → get_or dependency' q 0 ≡ get_or dependency q 0)
        → (r : ℕ) → r < end → laid_from dependency' next' r ≡ laid_from dependency next r
    laid_same dependency dependency' alike r l =
        ap (λ (c : List ℕ). map (λ q. get_or dependency' q 0) c) (chain_same r r l)
        ∙ map_same (λ q. get_or dependency' q 0) (λ q. get_or dependency q 0) (chain_from next r r)
        (λ q m. let h = falling_in r r l q m in alike q (omega arith))

-- one record more, followed by a chain that is there: it names one module more
pub one_more : (dependency next : List ℕ) (end : ℕ) → Falls next (suc end) → 1 ≤ end
    → laid_from dependency next end ≡ get_or dependency end 0 ∷ laid_from dependency next (get_or next end 0)
one_more dependency next zero falls some = absurd (omega arith)
one_more dependency next (suc r) falls some =
    let lower = falls (suc r) some (omega arith) in
    ap (λ (c : List ℕ). map (λ q. get_or dependency q 0) c)
    (chain_step next r (suc r) (λ z. omega arith)
    ∙ ap (λ (c : List ℕ). suc r ∷ c) (falling_fuel next (suc (suc r)) falls r (get_or next (suc r) 0) (omega arith) (omega arith)))
