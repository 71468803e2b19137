-- What is stored for a cut and for a piece that stays whole: what there has to be room for, and the areas afterwards. The pieces that are still to
-- be looked at stand at the end of the areas, the next one first.
use Rattle.std.specs.Prelude.{ℕ, ◌+◌, ◌-◌, ◌^◌, ◌≤◌, ◌<◌, List, ◌≡◌, Float, length, set}
use Rattle.cut.specs.declared.CutPoint.{CutPoint}

-- the next piece is cut at a place that fits its table, and there is room for one more before it
pub record Pushable (starts : List ℕ) (sizes : List Float) (top middle : ℕ) : Type 0 where
  pub some : 1 ≤ top
  pub starts_room : top ≤ length starts
  pub sizes_room : top < length sizes
  pub fits : middle < 2 ^ 32

-- the left piece begins where the one that was cut began, and the right one, which is next, where it was cut
pub record Pushed (starts : List ℕ) (sizes : List Float) (top start : ℕ) (point : CutPoint) (starts' : List ℕ) (sizes' : List Float) : Type 0 where
  pub begins : starts' ≡ set starts (top - 1) (start + point.index)
  pub sized : sizes' ≡ set (set sizes top point.left_size) (top - 1) point.right_size

-- there is room for one more piece, whose start fits its table
pub record Endable (starts : List ℕ) (sizes : List Float) (marks : List ℕ) (count start : ℕ) : Type 0 where
  pub starts_room : count < length starts
  pub sizes_room : count < length sizes
  pub marks_room : count < length marks
  pub fits : start < 2 ^ 32

-- the piece's start, size and mark stand next in the three areas
pub record Ended (starts : List ℕ) (sizes : List Float) (marks : List ℕ) (count start : ℕ) (size : Float) (mark : ℕ)
    (starts' : List ℕ) (sizes' : List Float) (marks' : List ℕ) : Type 0 where
  pub begins : starts' ≡ set starts count start
  pub sized : sizes' ≡ set sizes count size
  pub marked : marks' ≡ set marks count mark
