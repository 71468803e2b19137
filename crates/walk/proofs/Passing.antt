-- Along a chain to its end, one visit a record, with no record marked: what is left to do from record r on is what was to be done from the first
-- record r₀ on. No chain has more than d records, so that their number can be counted.
use Prim.Native.Nat.{ℕ, zero, suc, ◌+◌, ◌≤◌, ◌<◌}
use mathlib.Core.Bool.{Bool, true, false}
use mathlib.Core.List.{List, [], ◌∷◌, map, foldl}
use mathlib.Core.Path.{◌≡◌, refl, ap, ◌∙◌, subst}
use native.Mathlib.Omega.{arith}
use lib.Dec.{eqb}
use lib.ListN.{length, get_or, length-map}
use Rattle.records.specs.Chain.{link, chain_from}
use Rattle.records.proofs.Chain.{chain_rest, rest_ended}
use Rattle.records.proofs.Table.{Good}
use Rattle.walk.specs.Walk.{Walk, WalkTables, WalkState, visited}
use Rattle.walk.specs.Chains.{named_from, LinkTables, Chain}
use Rattle.walk.proofs.Visit.{visit_one}

-- ---- records, and the modules that they name

-- no record comes after the zero
chain_none : (next : List ℕ) (fuel : ℕ) → chain_from next fuel 0 ≡ []
unfolding chain_from link
chain_none next zero = refl
chain_none next (suc fuel) = refl

-- a chain has no more records than its fuel
chain_length : (next : List ℕ) (fuel r : ℕ) → length (chain_from next fuel r) ≤ fuel
unfolding chain_from link
chain_length next zero r = omega arith
chain_length next (suc fuel) r = go (eqb r 0) (chain_length next fuel (get_or next r 0))
  where
    go : (b : Bool) → length (chain_from next fuel (get_or next r 0)) ≤ fuel → length (link b r (chain_from next fuel (get_or next r 0))) ≤ suc fuel
    go true h = omega arith
    go false h = omega arith

pub named_length : (dependency next : List ℕ) (d r : ℕ) → length (named_from dependency next d r) ≤ d
named_length dependency next d r = simp length-map (chain_length next d r)

-- a record that isn't the zero, on a chain that can be gone along
module _ {dependency next : List ℕ} {n d : ℕ} (t : LinkTables dependency next n d) {r : ℕ} (c : Chain next d r) (some : r ≡ 0 → ⊥) where
  pub named_in : get_or dependency r 0 < n
  named_in = t.module_in r (omega (arith, some)) c.record_in

  -- from its next on the chain can be gone along too
  pub chain_on : Chain next d (get_or next r 0)
  chain_on = record { record_in = t.next_in r (omega (arith, some)) c.record_in; ends = rest_ended next d r some c.ends }

  pub named_rest : named_from dependency next d r ≡ get_or dependency r 0 ∷ named_from dependency next d (get_or next r 0)
  named_rest = ap (map (λ r. get_or dependency r 0)) (chain_rest next d r some c.ends)

-- chains of modules can be gone along, in tables that refusal 7 does not turn away
module _ {flags first dependency next : List ℕ} {n d : ℕ} (t : WalkTables flags first dependency next n d) (g : Good first dependency next n d) where
  pub link_tables : LinkTables dependency next n d
  link_tables = record { few = t.records.few; modules = t.records.modules; nexts = t.records.nexts; next_in = g.next_in; module_in = g.module_in }

  pub chain_begins : (m : ℕ) → m < n → Chain next d (get_or first m 0)
  chain_begins m h = record { record_in = g.first_in m h; ends = g.chain_ends m h }

-- ---- one chain

-- w₀ at record r₀ has come to w at record r, and the records gone along from `gone` to `count`
pub record Passing (flags dependency next : List ℕ) (n d : ℕ) (w₀ : Walk) (gone r₀ : ℕ) (w : Walk) (count r : ℕ) : Type 0 where
  pub state : WalkState flags n w
  pub chain : Chain next d r
  pub counted : count + length (named_from dependency next d r) ≡ gone + length (named_from dependency next d r₀)
  pub same : foldl (visited flags) w₀ (named_from dependency next d r₀) ≡ foldl (visited flags) w (named_from dependency next d r)
  pub queue_length : length w.queue ≡ length w₀.queue

module _ {flags dependency next : List ℕ} {n d : ℕ} (t : LinkTables dependency next n d) where
  pub pass_begins : (w : Walk) (gone r : ℕ) → WalkState flags n w → Chain next d r → Passing flags dependency next n d w gone r w gone r
  pass_begins w gone r s c = record { state = s; chain = c; counted = refl; same = refl; queue_length = refl }

  module _ {w₀ : Walk} {gone r₀ : ℕ} {w : Walk} {count r : ℕ} (p : Passing flags dependency next n d w₀ gone r₀ w count r) where
    -- the records can be counted
    pub pass_few : count ≤ gone + d
    pass_few = omega (arith, p.counted, named_length dependency next d r₀)

    -- at the zero, all is done
    module _ (z : r ≡ 0) where
      none_left : named_from dependency next d r ≡ []
      none_left = ap (map (λ r. get_or dependency r 0)) (ap (chain_from next d) z ∙ chain_none next d)

      pub pass_ends : foldl (visited flags) w₀ (named_from dependency next d r₀) ≡ w
      pass_ends = p.same ∙ ap (foldl (visited flags) w) none_left

      pub pass_counted : count ≡ gone + length (named_from dependency next d r₀)
      pass_counted = omega (arith, p.counted, ap length none_left)

    module _ (some : r ≡ 0 → ⊥) where
      rest : named_from dependency next d r ≡ get_or dependency r 0 ∷ named_from dependency next d (get_or next r 0)
      rest = named_rest t p.chain some

      pub pass_less : length (named_from dependency next d (get_or next r 0)) < length (named_from dependency next d r)
      pass_less = rw rest (omega arith)

      pub pass_turns : {w' : Walk} → visited flags w (get_or dependency r 0) ≡ w' → Passing flags dependency next n d w₀ gone r₀ w' (count + 1) (get_or next r 0)
      pass_turns e =
          let v = visit_one flags n w p.state (get_or dependency r 0) (named_in t p.chain some) in
          subst (λ (w' : Walk). Passing flags dependency next n d w₀ gone r₀ w' (count + 1) (get_or next r 0)) e (
          record {
            state = v.state;
            chain = chain_on t p.chain some;
            counted = omega (arith, p.counted, ap length rest);
            same = p.same ∙ ap (foldl (visited flags) w) rest;
            queue_length = v.queue_length ∙ p.queue_length;
          })
