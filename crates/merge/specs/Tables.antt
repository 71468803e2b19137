-- Subgroups in tables: a size and four words of entry bits a row.
use Rattle.std.specs.Prelude.{ℕ, ◌*◌, ◌≤◌, ◌^◌, ◌≡◌, eqb, Float, length, get_or}
use mathlib.Core.List.{List, [], ◌++◌, map, foldr}
use Rattle.std.proofs.Math.Option.{Option, none, some}
use Rattle.std.specs.Float.Ieee.{to_unsigned}
use Rattle.lists.specs.Keep.{keep}
use Rattle.lists.specs.Least.{least}
use Rattle.lists.specs.Range.{range}
use Rattle.lists.specs.Sum.{sum}
use Rattle.whole.specs.Double.{to_f64}
use Rattle.bitset.specs.Entries.{empty, row_of}
use Rattle.bitset.specs.declared.entries.BitSet.{BitSet}
use Rattle.joins.specs.Subgroup.{Subgroup, smaller}
use Rattle.merge.specs.Merge.{Merging, merged}

-- subgroup i of the tables
unfoldable pub subgroup_at : List ℕ → List ℕ → ℕ → Subgroup
unfolding row_of
subgroup_at sizes bits i = record { number = i; size = to_f64 (get_or sizes i 0); bits = row_of bits i }

-- "Subgroups 0 to k−1", each with its own number
unfoldable pub start : ℕ → List ℕ → List ℕ → Merging
unfolding range subgroup_at
start k sizes bits = record { there = map (subgroup_at sizes bits) (range 0 k); finals = range 0 k }

-- the merge of k subgroups
unfoldable pub merge_of : ℕ → List ℕ → List ℕ → Float → Merging
unfolding start merged
merge_of k sizes bits threshold = merged threshold (start k sizes bits)

-- the subgroup of a number, if it is still there
unfoldable pub still_there : ℕ → List Subgroup → Option Subgroup
unfolding keep least smaller
still_there i there = least smaller (keep (λ s. eqb s.number i) there)

-- "the u64 sizes and the bits, those of vanished ones as zero"
abbrev pub size_of : Option Subgroup → ℕ
size_of none = 0
size_of (some s) = to_unsigned 64 s.size

abbrev pub bits_of : Option Subgroup → BitSet
bits_of none = empty
bits_of (some s) = s.bits

unfoldable pub final_sizes : ℕ → Merging → List ℕ
unfolding range still_there
final_sizes k m = map (λ i. size_of (still_there i m.there)) (range 0 k)

unfoldable pub final_bits : ℕ → Merging → List ℕ
unfolding range still_there
final_bits k m = foldr (λ i rest. (bits_of (still_there i m.there)).words ++ rest) [] (range 0 k)

-- what a merge in place asks of its tables: a size and four words for each number, and a total of at most 2^53
pub record Mergeable (numbers sizes bits : List ℕ) : Type 0 where
  pub count : length numbers ≤ 4096
  pub sizes_fit : length sizes ≡ length numbers
  pub bits_fit : length bits ≡ 4 * length numbers
  pub exact : sum sizes ≤ 2 ^ 53
