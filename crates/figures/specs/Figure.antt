-- One figure of document 01, and whether it holds of the definitions. Doubles are compared by their bits.
use Rattle.std.specs.Prelude.{ℕ, Bool, true, false, ◌&&◌, List, [], ◌∷◌, eqb, Float, length}
use Rattle.std.specs.Float.{binary64}
use Rattle.std.specs.Float.Ieee.{to_bits}
use Rattle.lists.specs.Same.{same_numbers}
use Rattle.whole.specs.Double.{to_f64}
use Rattle.similarity.specs.Similarity.{similarity}
use Rattle.cut.specs.Cut.{Chosen, fewer_than_two, none_allowed, cut, cut_of}
use Rattle.merge.specs.Merge.{Merging}
use Rattle.merge.specs.Tables.{merge_of, final_sizes, final_bits}

-- the cut that a figure names: none of fewer than two modules, none that is allowed, or the index and the whole sizes of the two sides
pub data Expected : Type 0 where
  fewer : Expected
  not_allowed : Expected
  cut_into : ℕ → ℕ → ℕ → Expected

pub data Figure : Type 0 where
  -- two ids and their similarity
  similar : List ℕ → List ℕ → ℕ → Figure
  -- ids, sizes, minimum, maximum, and the cut
  cuts : List (List ℕ) → List ℕ → ℕ → ℕ → Expected → Figure
  -- threshold, sizes and entry bits (four words a subgroup), and the final numbers, sizes and bits
  merges : ℕ → List ℕ → List ℕ → List ℕ → List ℕ → List ℕ → Figure

abbrev pub same_double : Float → ℕ → Bool
same_double x n = eqb (to_bits binary64 x) (to_bits binary64 (to_f64 n))

abbrev pub same_cut : Chosen → Expected → Bool
same_cut fewer_than_two fewer = true
same_cut fewer_than_two not_allowed = false
same_cut fewer_than_two (cut_into j l r) = false
same_cut none_allowed fewer = false
same_cut none_allowed not_allowed = true
same_cut none_allowed (cut_into j l r) = false
same_cut (cut i left right) fewer = false
same_cut (cut i left right) not_allowed = false
same_cut (cut i left right) (cut_into j l r) = eqb i j && (same_double left l && same_double right r)

unfoldable pub same_merge : ℕ → Merging → List ℕ → List ℕ → List ℕ → Bool
unfolding same_numbers final_sizes final_bits
same_merge k m numbers sizes bits = same_numbers m.finals numbers && (same_numbers (final_sizes k m) sizes && same_numbers (final_bits k m) bits)

unfoldable pub holds : Figure → Bool
unfolding similarity cut_of merge_of same_merge
holds (similar l r score) = eqb (similarity l r) score
holds (cuts ids sizes minimum maximum expected) = same_cut (cut_of ids sizes (to_f64 minimum) (to_f64 maximum)) expected
holds (merges threshold sizes bits numbers sizes' bits') =
    same_merge (length sizes) (merge_of (length sizes) sizes bits (to_f64 threshold)) numbers sizes' bits'

unfoldable pub all_hold : List Figure → Bool
unfolding holds
all_hold [] = true
all_hold (f ∷ figures) = holds f && all_hold figures
