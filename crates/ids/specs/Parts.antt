-- "Stable ids: one byte slice and N+1 offsets"; an id is a part of that slice.
use Rattle.std.specs.Prelude.{ℕ, ◌+◌, ◌≤◌, ◌<◌, List, map, length, get_or}
use Rattle.std.proofs.Math.Seq.{slice}
use Rattle.lists.specs.Range.{range}

-- the id of module k: the bytes from its offset to the next
unfoldable pub id_at : List ℕ → List ℕ → ℕ → List ℕ
id_at bytes offsets k = slice (get_or offsets k 0) (get_or offsets (k + 1) 0) bytes

-- the ids of n modules, in the order given
unfoldable pub ids_of : ℕ → List ℕ → List ℕ → List (List ℕ)
unfolding range id_at
ids_of n bytes offsets = map (id_at bytes offsets) (range 0 n)

-- module k is in the table, and its two offsets are in order and within the slice
pub record InTable (bytes offsets : List ℕ) (k : ℕ) : Type 0 where
  pub has_next : k + 1 < length offsets
  pub rises : get_or offsets k 0 ≤ get_or offsets (k + 1) 0
  pub ends : get_or offsets (k + 1) 0 ≤ length bytes
