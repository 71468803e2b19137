-- A name is at most 100 bytes if the chunk is entries-aware, so that an accepted call's area holds it whole.
use Prim.Native.Nat.{ℕ, ◌≤◌}
use mathlib.Core.Bool.{Bool, true, false, cond}
use mathlib.Core.List.{List, ◌∷◌}
use mathlib.Core.Path.{◌≡◌, refl}
use native.Mathlib.Omega.{arith}
use borrow.Author.Tests.{ltb-false}
use lib.Dec.{ltb}
use lib.ListN.{length, take, length-append, length-take}
use Rattle.utf8.specs.Start.{start_back}
use Rattle.utf8.proofs.Starts.{start_back_le}
use Rattle.chunk_names.specs.Name.{separator, max_chunk_name_len, truncated_len, shortened, entries_aware_name, full_name, name_of}
use Rattle.chunk_names.specs.Given.{Given, entry_names, group_name, chunk_name}

module _ (full hash : List ℕ) (eight : length hash ≡ 8) where
  shortened_length : length (shortened full hash) ≤ max_chunk_name_len
  unfolding shortened
  shortened_length =
      let cut = start_back_le full truncated_len in
      rw (length-append (take (start_back full truncated_len) full) (separator ∷ hash), length-take (start_back full truncated_len) full) (omega arith)

  pub aware_length : length (entries_aware_name full hash) ≤ max_chunk_name_len
  unfolding entries_aware_name
  aware_length = go (ltb max_chunk_name_len (length full)) refl
    where
      go : (t : Bool) → ltb max_chunk_name_len (length full) ≡ t → length (cond t (shortened full hash) full) ≤ max_chunk_name_len
      go true e = shortened_length
      go false e = ltb-false max_chunk_name_len (length full) e

-- "A name is at most 100 bytes if the chunk is entries-aware."
pub at_most_100 : (g : Given) → length g.hash ≡ 8 → g.entries_aware ≡ true → length (chunk_name g) ≤ max_chunk_name_len
unfolding chunk_name name_of
at_most_100 g eight e = rw e (aware_length (full_name (group_name g.names g.number) g.bits (entry_names g.names)) g.hash eight)

-- so it fits into an area of 100 bytes that also holds the group name
pub name_fits : (g : Given) (room : ℕ) → length g.hash ≡ 8 → max_chunk_name_len ≤ room → length (group_name g.names g.number) ≤ room → length (chunk_name g) ≤ room
unfolding chunk_name name_of
name_fits g room eight enough group = go g.entries_aware refl
  where
    go : (t : Bool) → g.entries_aware ≡ t → length (chunk_name g) ≤ room
    go true e = let l = at_most_100 g eight e in omega arith
    go false e = rw e group
