-- Modules in an order of their own: tables of ids and sizes, and the numbers of the modules in that order.
use Rattle.std.specs.Prelude.{ℕ, ◌+◌, ◌^◌, ◌≤◌, ◌<◌, false, List, map, ◌≡◌, length, get_or}
use Rattle.refusal.specs.Counts.{module_limit}
use Rattle.lists.specs.Sum.{sum}
use Rattle.ids.specs.Parts.{id_at}
use Rattle.ids.specs.Offsets.{id_limit, bad_offsets}
use Rattle.similarity.specs.Similarity.{similarity}

-- the sizes of the modules, in their order
abbrev pub sizes_in : List ℕ → List ℕ → List ℕ
sizes_in sizes order = map (λ k. get_or sizes k 0) order

-- the ids of the modules, in their order
abbrev pub ids_in : List ℕ → List ℕ → List ℕ → List (List ℕ)
ids_in bytes offsets order = map (id_at bytes offsets) order

-- how alike the ids of two modules are
abbrev pub alike : List ℕ → List ℕ → ℕ → ℕ → ℕ
alike bytes offsets before after = similarity (id_at bytes offsets before) (id_at bytes offsets after)

-- each number of the order has a size, and the sizes of the modules in the order add to at most 2^53
pub record Sized (sizes order : List ℕ) : Type 0 where
  pub has_size : (i : ℕ) → i < length order → get_or order i 0 < length sizes
  pub exact : sum (sizes_in sizes order) ≤ 2 ^ 53

-- each number of the order has an id in a table to which refusal 3 does not apply
pub record Named (bytes offsets order : List ℕ) : Type 0 where
  pub good : bad_offsets id_limit (length bytes) offsets ≡ false
  pub has_id : (i : ℕ) → i < length order → get_or order i 0 + 1 < length offsets

-- what the cut of modules in an order asks of its tables
pub record Cuttable (bytes offsets sizes order : List ℕ) : Type 0 where
  pub sized : Sized sizes order
  pub named : Named bytes offsets order

-- two modules have ids in a table to which refusal 3 does not apply
pub record NamedPair (bytes offsets : List ℕ) (before after : ℕ) : Type 0 where
  pub good : bad_offsets id_limit (length bytes) offsets ≡ false
  pub has_before : before + 1 < length offsets
  pub has_after : after + 1 < length offsets

-- tables to which none of 1, 2, 3 and 6 applies
pub record GivenOrder (bytes offsets sizes : List ℕ) : Type 0 where
  pub few : length sizes ≤ module_limit
  pub all_offsets : length offsets ≡ length sizes + 1
  pub good : bad_offsets id_limit (length bytes) offsets ≡ false
  pub exact : sum sizes ≤ 2 ^ 53
