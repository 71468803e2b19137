-- Cut (`pick_relevance_split_index`), of lists of ids and sizes.
use Rattle.std.specs.Prelude.{ℕ, ◌-◌, cond, ltb, Float, length}
use mathlib.Core.List.{List, [], ◌∷◌, foldl, map}
use Rattle.lists.specs.Range.{range}
use Rattle.lists.specs.Keep.{keep}
use Rattle.cut.specs.Candidate.{candidate_at, allowed, beats}
use Rattle.cut.specs.declared.candidate.Candidate.{Candidate}

-- "The answer is the cut with its two sizes, as f64"; where there is none: "fewer than two modules, or no allowed cut"
pub data Chosen : Type 0 where
  fewer_than_two : Chosen
  none_allowed : Chosen
  cut : ℕ → Float → Float → Chosen

-- why so many modules have no cut
abbrev pub why_none : ℕ → Chosen
why_none count = cond (ltb count 2) fewer_than_two none_allowed

-- the allowed cuts, from 1 to N−1, upwards
unfoldable pub allowed_cuts : List (List ℕ) → List ℕ → Float → List Candidate
unfolding range keep candidate_at allowed
allowed_cuts ids sizes minimum = keep (allowed minimum) (map (candidate_at ids sizes) (range 1 (length ids - 1)))

-- the better of the best so far and a later one
unfoldable pub better : Float → Candidate → Candidate → Candidate
unfolding beats
better maximum best later = cond (beats maximum later best) later best

-- "Allowed cuts are scanned upwards and the first is taken as best"; "No cut is reported only if none is allowed."
unfoldable pub pick : ℕ → Float → List Candidate → Chosen
unfolding better
pick count maximum [] = why_none count
pick count maximum (first ∷ later) =
    let best = foldl (better maximum) first later in
    cut best.index best.left best.right

-- the cut of modules in the order given
unfoldable pub cut_of : List (List ℕ) → List ℕ → Float → Float → Chosen
unfolding allowed_cuts pick
cut_of ids sizes minimum maximum = pick (length ids) maximum (allowed_cuts ids sizes minimum)
