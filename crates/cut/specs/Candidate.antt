-- One place to cut, and how two of them compare.
use Rattle.std.specs.Prelude.{ℕ, ◌+◌, ◌-◌, Bool, true, false, ◌&&◌, cond, List, [], ltb, Float, get_or, take, drop}
use Rattle.std.specs.Float.Ieee.{lt, le}
use Rattle.whole.specs.Double.{sum_f64}
use Rattle.similarity.specs.Similarity.{similarity}
use Rattle.cut.specs.declared.candidate.Candidate.{Candidate}

-- "(last id on the left, first on the right)"; "the first i sizes and the rest"
unfoldable pub candidate_at : List (List ℕ) → List ℕ → ℕ → Candidate
unfolding sum_f64 similarity
candidate_at ids sizes i =
    record { index = i; similarity = similarity (get_or ids (i - 1) []) (get_or ids i []); left = sum_f64 (take i sizes); right = sum_f64 (drop i sizes) }

-- "allowed when the first i sizes and the rest each reach the minimum"
unfoldable pub allowed : Float → Candidate → Bool
unfolding le
allowed minimum c = le minimum c.left && le minimum c.right

-- "sides above the maximum"
unfoldable pub oversized : Float → Candidate → ℕ
unfolding lt
oversized maximum c = cond (lt maximum c.left) 1 0 + cond (lt maximum c.right) 1 0

-- the "larger side"
unfoldable pub larger_side : Candidate → Float
unfolding lt
larger_side c = cond (lt c.left c.right) c.right c.left

-- At similarities that differ by at most 10: "fewer sides above the maximum win, then a strictly smaller larger side".
unfoldable pub beats_by_size : Float → Candidate → Candidate → Bool
unfolding oversized larger_side lt
beats_by_size maximum later best =
    cond (ltb (oversized maximum later) (oversized maximum best)) true
    (cond (ltb (oversized maximum best) (oversized maximum later)) false (lt (larger_side later) (larger_side best)))

-- Whether a later allowed cut replaces the best: it does if its similarity is lower by more than 10, it does not if it is higher by more than 10.
unfoldable pub beats : Float → Candidate → Candidate → Bool
unfolding beats_by_size
beats maximum later best =
    cond (ltb (later.similarity + 10) best.similarity) true
    (cond (ltb (best.similarity + 10) later.similarity) false (beats_by_size maximum later best))
