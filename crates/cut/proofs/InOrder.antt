-- The sizes and the ids of modules in an order of their own: each module of the order has a size that a double holds.
use Prim.Native.Nat.{ℕ, ◌^◌, ◌≤◌, ◌<◌}
use mathlib.Core.List.{List, []}
use mathlib.Core.Path.{◌≡◌}
use native.Mathlib.Omega.{arith}
use lib.Dec.{T, le→leb}
use lib.IntN.{pos}
use lib.Ieee.{binary64, in_float}
use lib.ListN.{length, get_or, length-map}
use Rattle.lists.specs.Sum.{sum}
use Rattle.lists.proofs.Map.{get_or_map_below}
use Rattle.lists.proofs.SumChanged.{one_of_sum}
use Rattle.ids.specs.Parts.{id_at}
use Rattle.cut.specs.Order.{sizes_in, ids_in, Sized}

-- ---- sizes

pub length_sizes : (sizes order : List ℕ) → length (sizes_in sizes order) ≡ length order
length_sizes sizes order = length-map order (λ k. get_or sizes k 0)

-- a size is at most 2^53, so that a double holds it
pub held : (l : List ℕ) (i : ℕ) → i < length l → sum l ≤ 2 ^ 53 → T (in_float binary64 (pos (get_or l i 0)))
unfolding in_float
held l i h exact = le→leb (get_or l i 0) (2 ^ 53) (omega (arith, one_of_sum l i h))

module _ (sizes order : List ℕ) (i : ℕ) (h : i < length order) where
  pub size_in : get_or (sizes_in sizes order) i 0 ≡ get_or sizes (get_or order i 0) 0
  size_in = get_or_map_below (λ k. get_or sizes k 0) order i 0 0 h

  pub size_held : Sized sizes order → T (in_float binary64 (pos (get_or sizes (get_or order i 0) 0)))
  size_held s = rw (← size_in) (held (sizes_in sizes order) i (rw length_sizes h) s.exact)

-- ---- ids

pub length_ids : (bytes offsets order : List ℕ) → length (ids_in bytes offsets order) ≡ length order
length_ids bytes offsets order = length-map order (id_at bytes offsets)

pub id_in : (bytes offsets order : List ℕ) (i : ℕ) → i < length order → get_or (ids_in bytes offsets order) i [] ≡ id_at bytes offsets (get_or order i 0)
id_in bytes offsets order i h = get_or_map_below (id_at bytes offsets) order i [] 0 h
