-- What a full name is made of, and which name a chunk has: an entries-aware one its own, any other its group's.
use Prim.Native.Nat.{ℕ}
use mathlib.Core.Bool.{Bool, true, false}
use mathlib.Core.List.{List, ◌++◌}
use mathlib.Core.Path.{◌≡◌, refl}
use Rattle.bitset.specs.declared.entries.BitSet.{BitSet}
use Rattle.chunk_names.specs.Name.{entries_aware_name, entry_parts, full_name, name_of}

module _ (group : List ℕ) (bits : BitSet) (names : List (List ℕ)) where
  pub full_name_lem : group ++ entry_parts bits names ≡ full_name group bits names
  unfolding full_name
  full_name_lem = refl

  module _ (aware : Bool) (hash : List ℕ) where
    pub aware_name : aware ≡ true → entries_aware_name (full_name group bits names) hash ≡ name_of aware group bits names hash
    unfolding name_of
    aware_name e = rw e

    pub bare_name : aware ≡ false → group ≡ name_of aware group bits names hash
    unfolding name_of
    bare_name e = rw e
