-- What refusal 7 leaves of a table that it does not turn away: no first and no next leads out of the table, every record names a module,
-- and every chain ends.
use Prim.Native.Nat.{ℕ, zero, suc, ◌≤◌, ◌<◌}
use mathlib.Core.Bool.{true, false, not, ◌||◌}
use mathlib.Core.List.Memᴰ
use mathlib.Core.List.{List, Memᴰ}
use mathlib.Core.Path.{◌≡◌, subst}
use native.Mathlib.Nat.{not-suc-le-zero}
use borrow.Author.Tests.{ltb-false, leb-false, not-false}
use lib.Dec.{ltb, leb}
use lib.ListN.{get_or}
use Rattle.lists.proofs.Below.{neither, none_of}
use Rattle.records.specs.Chain.{chain_of, dependencies, ended}
use Rattle.records.specs.Bad.{bad_first, bad_record, bad_chain, bad_records}
use Rattle.records.proofs.Chain.{chain_in}

pub first_in : (first : List ℕ) (n d : ℕ) → bad_first first n d ≡ false → (m : ℕ) → m < n → get_or first m 0 ≤ d
unfolding bad_first
first_in first n d e m h = ltb-false d (get_or first m 0) (none_of (λ m. ltb d (get_or first m 0)) n e m h)

module _ (dependency next : List ℕ) (n d : ℕ) (e : bad_record dependency next n d ≡ false) where
  each : (k : ℕ) → k < d → (ltb d (get_or next (suc k) 0) ≡ false) × (leb n (get_or dependency (suc k) 0) ≡ false)
  unfolding bad_record
  each k h =
      neither (ltb d (get_or next (suc k) 0)) (leb n (get_or dependency (suc k) 0))
      (none_of (λ k. ltb d (get_or next (suc k) 0) || leb n (get_or dependency (suc k) 0)) d e k h)

  pub next_in : (r : ℕ) → 1 ≤ r → r ≤ d → get_or next r 0 ≤ d
  next_in zero h g = absurd (not-suc-le-zero h)
  next_in (suc k) h g = ltb-false d (get_or next (suc k) 0) (each k g).0

  pub module_in : (r : ℕ) → 1 ≤ r → r ≤ d → get_or dependency r 0 < n
  module_in zero h g = absurd (not-suc-le-zero h)
  module_in (suc k) h g = leb-false n (get_or dependency (suc k) 0) (each k g).1

pub chain_ends : (first next : List ℕ) (n d : ℕ) → bad_chain first next n d ≡ false → (m : ℕ) → m < n → ended next d (get_or first m 0) ≡ true
unfolding bad_chain
chain_ends first next n d e m h = not-false (ended next d (get_or first m 0)) (none_of (λ m. not (ended next d (get_or first m 0))) n e m h)

-- all of it, for a table that refusal 7 does not turn away
pub record Good (first dependency next : List ℕ) (n d : ℕ) : Type 0 where
  pub first_in : (m : ℕ) → m < n → get_or first m 0 ≤ d
  pub next_in : (r : ℕ) → 1 ≤ r → r ≤ d → get_or next r 0 ≤ d
  pub module_in : (r : ℕ) → 1 ≤ r → r ≤ d → get_or dependency r 0 < n
  pub chain_ends : (m : ℕ) → m < n → ended next d (get_or first m 0) ≡ true

pub good : (first dependency next : List ℕ) (n d : ℕ) → bad_records first dependency next n d ≡ false → Good first dependency next n d
unfolding bad_records
good first dependency next n d e =
    let s = neither (bad_first first n d) (bad_record dependency next n d || bad_chain first next n d) e in
    let t = neither (bad_record dependency next n d) (bad_chain first next n d) s.1 in
    record { first_in = first_in first n d s.0; next_in = next_in dependency next n d t.0; module_in = module_in dependency next n d t.0; chain_ends = chain_ends first next n d t.1 }

-- every record on a module's chain is one of the table's, and every module that is named along it is a module
module _ (first dependency next : List ℕ) (n d : ℕ) (g : Good first dependency next n d) where
  pub chain_records : (m : ℕ) → m < n → (r : ℕ) → Memᴰ r (chain_of first next d m) → (1 ≤ r) × (r ≤ d)
  unfolding chain_of
  chain_records m h r i = chain_in next d g.next_in d (get_or first m 0) (g.first_in m h) r i

  pub dependencies_in : (m : ℕ) → m < n → (k : ℕ) → Memᴰ k (dependencies first dependency next d m) → k < n
  unfolding dependencies
  dependencies_in m h k i =
      let o = Memᴰ.of_map (λ r. get_or dependency r 0) (chain_of first next d m) i in
      let s = chain_records m h o.0 o.1 in
      let b : get_or dependency o.0 0 < n = g.module_in o.0 s.0 s.1 in
      subst (λ (x : ℕ). x < n) o.2 b
