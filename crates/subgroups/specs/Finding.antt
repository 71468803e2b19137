-- What the search for the kinds of a set asks and answers.
use Rattle.std.specs.Prelude.{◌≡◌, ℕ, ◌+◌, ◌*◌, ◌^◌, ◌<◌, ◌≤◌, Bool, true, false, List, [], ◌∷◌, ◌++◌, map, length, take, slice_index}
use Rattle.lists.specs.Sum.{sum}
use Rattle.bitset.specs.declared.entries.BitSet.{BitSet}
use Rattle.grouping.specs.Subgroups.{kind_number}
use Rattle.subgroups.specs.Kinds.{rows_of, has_kind, kinds_in, kind_of_module, sizes_of, size_of_kind}

-- each module of the set has a size and a row of bits, and the sizes add to at most 2^53
pub record Members (bits sizes set : List ℕ) : Type 0 where
  pub count : length set ≤ 4096
  pub has_size : (i : ℕ) → i < length set → slice_index set i < length sizes
  pub has_bits : (i : ℕ) → i < length set → 4 * slice_index set i + 4 ≤ length bits
  pub exact : sum (sizes_of sizes set) ≤ 2 ^ 53

-- a number for each module, and room for as many kinds as there are modules
pub record KindRoom (set kind_of kind_sizes kind-bits : List ℕ) : Type 0 where
  pub numbers : length kind_of ≡ length set
  pub sizes : length set ≤ length kind_sizes
  pub rows : 4 * length set ≤ length kind-bits

-- the list with one more at its end, unless it is there already
unfoldable pub entered : {A : Type 0} → Bool → List A → A → List A
entered true l x = l
entered false l x = l ++ (x ∷ [])

-- there is room for one kind more, and the bits are four words
pub record KindFits (count : ℕ) (x : BitSet) (kind_sizes kind-bits : List ℕ) : Type 0 where
  pub four : length x.words ≡ 4
  pub sizes : count < length kind_sizes
  pub rows : 4 * count + 4 ≤ length kind-bits

-- The bits have a kind: one that was there, or a new one of size 0 after the others.
pub record Entered (count : ℕ) (x : BitSet) (sizes bits : List ℕ) (kind count' : ℕ) (sizes' bits' : List ℕ) : Type 0 where
  pub number : kind ≡ kind_number 0 (rows_of bits count) x
  pub kinds : rows_of bits' count' ≡ entered (has_kind (rows_of bits count) x) (rows_of bits count) x
  pub totals : take count' sizes' ≡ entered (has_kind (rows_of bits count) x) (take count sizes) 0

-- the kinds of a set, the kind of each of its modules, and the size of each kind
pub record KindsFound (bits sizes set : List ℕ) (r : ℕ) (kind_of kind_sizes kind-bits : List ℕ) : Type 0 where
  pub kinds : rows_of kind-bits r ≡ kinds_in bits set
  pub numbers : kind_of ≡ map (kind_of_module bits (kinds_in bits set)) set
  pub totals : take r kind_sizes ≡ map (size_of_kind bits sizes set) (kinds_in bits set)
  pub whole : sum (take r kind_sizes) ≡ sum (sizes_of sizes set)
