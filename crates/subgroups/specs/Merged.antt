-- The subgroups of a set by its tables, merged, and the set's positions by the subgroup that each ends in.
use Rattle.std.specs.Prelude.{◌≡◌, ℕ, ◌*◌, ◌<◌, ◌≤◌, List, map, length, take, slice_index, slice_index_or, Float}
use Rattle.lists.specs.Range.{range}
use Rattle.division.specs.Divided.{divided}
use Rattle.whole.specs.Double.{to_f64}
use Rattle.bitset.specs.Entries.{empty}
use Rattle.joins.specs.Subgroup.{Subgroup}
use Rattle.merge.specs.Merge.{Merging, merged}
use Rattle.merge.specs.Tables.{final_sizes}
use Rattle.merge.specs.Engine.{state_of}
use Rattle.subgroups.specs.Kinds.{kinds_in, kind_of_module, size_of_kind}

-- the subgroup of kind i before the merge
abbrev pub subgroup_of_kind : List ℕ → List ℕ → List ℕ → ℕ → Subgroup
subgroup_of_kind bits sizes set i =
    let kind = slice_index_or (kinds_in bits set) i empty in
    record { number = i; size = to_f64 (size_of_kind bits sizes set kind); bits = kind }

-- the subgroups of the set, merged
unfoldable pub merged_kinds : List ℕ → List ℕ → List ℕ → Float → Merging
unfolding merged range size_of_kind
merged_kinds bits sizes set threshold =
    let count = length (kinds_in bits set) in
    merged threshold (record { there = map (subgroup_of_kind bits sizes set) (range 0 count); finals = range 0 count })

-- each module of the set has a rank
abbrev pub Ranked : List ℕ → List ℕ → Type 0
Ranked rank set = (i : ℕ) → i < length set → slice_index set i < length rank

-- a row of bits for each of n modules, and a number for each
pub record ProcessRoom (n : ℕ) (rows order : List ℕ) : Type 0 where
  pub row_each : 4 * n ≤ length rows
  pub order_fits : length order ≡ n

-- final numbers and sizes with these rows of bits: a state of the merge of the set's kinds
abbrev pub state_with : List ℕ → List ℕ → Merging → List ℕ → Merging
state_with bits set m rows =
    let count = length (kinds_in bits set) in
    state_of m.finals (final_sizes count m) (take (4 * count) rows)

-- Afterwards: the rows hold the united bits that the merge of the set's kinds ends with, and the order is the division by its final numbers and by ranks.
pub record Processed (bits sizes set rank : List ℕ) (threshold : Float) (rows order : List ℕ) : Type 0 where
  pub state : state_with bits set (merged_kinds bits sizes set threshold) rows ≡ merged_kinds bits sizes set threshold
  pub order_is : order ≡ divided (merged_kinds bits sizes set threshold).finals (map (kind_of_module bits (kinds_in bits set)) set) set rank
