-- In a table that passes refusal 3 every id is a part of the byte slice within the length limit, and the ids of n modules
-- are n in number, each at its place.
use Prim.Native.Nat.{ℕ, zero, suc, ◌+◌, ◌-◌, ◌≤◌, ◌<◌}
use mathlib.Core.Bool.{false}
use mathlib.Core.List.{List, [], ◌∷◌}
use mathlib.Core.Path.{◌≡◌, ◌∙◌}
use native.Mathlib.Nat.{zero-sub, sub-zero, suc-sub-suc}
use lib.ListN.{length, get_or, take, drop, length-map}
use lib.Seq.{slice, take-nil, drop-nil, length-slice}
use Rattle.lists.specs.Range.{range}
use Rattle.lists.proofs.Map.{get_or_map_range}
use Rattle.lists.proofs.Range.{length_range}
use Rattle.ids.specs.Offsets.{bad_offsets}
use Rattle.ids.specs.Parts.{id_at, ids_of, InTable}
use Rattle.ids.proofs.OffsetTable.{offset_within, offset_pair}

-- a part by its start and its length is the part by its start and its end
pub part_slice : (s e : ℕ) (l : List ℕ) → take (e - s) (drop s l) ≡ slice s e l
part_slice zero e l = rw sub-zero
part_slice (suc s) zero l = rw (zero-sub, drop-nil)
part_slice (suc s) (suc e) [] = take-nil (suc e - suc s)
part_slice (suc s) (suc e) (x ∷ l) = rw suc-sub-suc (part_slice s e l)

module _ (longest : ℕ) (bytes offsets : List ℕ) (k : ℕ) (good : bad_offsets longest (length bytes) offsets ≡ false) (h : k + 1 < length offsets) where
  pub in_table : InTable bytes offsets k
  in_table = record { has_next = h; rises = (offset_pair longest _ offsets good k h).0; ends = offset_within longest _ offsets good (k + 1) h }

  pub id_length : length (id_at bytes offsets k) ≤ longest
  unfolding id_at
  id_length = rw (length-slice _ _ bytes in_table.ends) (offset_pair longest _ offsets good k h).1

-- ---- the ids of n modules

pub ids_length : (n : ℕ) (bytes offsets : List ℕ) → length (ids_of n bytes offsets) ≡ n
unfolding ids_of
ids_length n bytes offsets = length-map (range 0 n) (id_at bytes offsets) ∙ length_range 0 n

pub ids_at : (n : ℕ) (bytes offsets : List ℕ) (k : ℕ) → k < n → get_or (ids_of n bytes offsets) k [] ≡ id_at bytes offsets k
unfolding ids_of
ids_at n bytes offsets k h = get_or_map_range (id_at bytes offsets) n k [] h
