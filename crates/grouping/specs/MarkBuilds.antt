-- Builds about the marks of chunks: the chunk's own places and the limits in force decide, in id order. Modules are numbered neither by their ids
-- nor in execution order, and all have entry 0.
use Rattle.std.specs.Prelude.{◌-◌, ◌^◌, [], ◌∷◌}
use Rattle.grouping.specs.Given.{Given}
use Rattle.grouping.specs.Builds.{row, group, priority, min_size, max_size, unused, build}

-- Group 0's sides have to reach 2, and its maximum is 8. Name 0 is 8 in all. Name 1 is "c" 9 alone. Name 2 is "d" 8 and "e" 1, whose cut fails on the
-- right side only. Name 3 is "fa" 1, "fb" 10 and "fc" 1: each cut in id order leaves a side of 1, where "fb", which runs first, could be cut off.
-- Group 1 has no maximum, and all sizes together are 2^53.
unfoldable pub too_large : Given
unfolding build row
too_large =
    build 1 4 [] 0
    (row "fb" 10 0 1 []
    ∷ row "fa" 1 1 1 []
    ∷ row "fc" 1 2 1 []
    ∷ row "d" 8 4 1 []
    ∷ row "e" 1 3 1 []
    ∷ row "a" 5 6 1 []
    ∷ row "b" 3 5 1 []
    ∷ row "c" 9 7 1 []
    ∷ row "z" (2 ^ 53 - 38) 8 1 []
    ∷ [])
    (group (min_size 2 ∷ max_size 8 ∷ []) (5 ∷ 5 ∷ 5 ∷ 4 ∷ 4 ∷ 2 ∷ 2 ∷ 3 ∷ 0 ∷ []) ∷ group [] (0 ∷ 0 ∷ 0 ∷ 0 ∷ 0 ∷ 0 ∷ 0 ∷ 0 ∷ 2 ∷ []) ∷ [])

-- The global maximum of 5 holds for group 0, which is cut into "a" 9 and "b" 1. Group 1's own is 10, and its "c" 9 is between the two; group 2's own
-- is 3, and its "d" 4 is between the two.
unfoldable pub maxima : Given
unfolding build row
maxima =
    build 1 1 (max_size 5 ∷ []) 0
    (row "d" 4 0 1 [] ∷ row "a" 9 2 1 [] ∷ row "b" 1 1 1 [] ∷ row "c" 9 3 1 [] ∷ [])
    (group (unused (max_size 20) ∷ []) (0 ∷ 2 ∷ 2 ∷ 0 ∷ [])
    ∷ group (max_size 10 ∷ []) (0 ∷ 0 ∷ 0 ∷ 2 ∷ [])
    ∷ group (max_size 3 ∷ []) (2 ∷ 0 ∷ 0 ∷ 0 ∷ [])
    ∷ [])

-- Group 0's sides have to reach 4, and its maximum is 5. Name 0 starts with "a" 2 and "b" 8, name 1 with "c" 2 and "d" 4: both are above it, and the cut
-- of neither is allowed. Then group 1's chunk takes "a" and "c".
unfoldable pub shrunk : Given
unfolding build row
shrunk =
    build 1 2 [] 0
    (row "b" 8 2 1 [] ∷ row "c" 2 0 1 [] ∷ row "a" 2 1 1 [] ∷ row "d" 4 3 1 [] ∷ [])
    (group (min_size 4 ∷ max_size 5 ∷ []) (2 ∷ 3 ∷ 2 ∷ 3 ∷ []) ∷ group (priority 1 ∷ []) (0 ∷ 2 ∷ 2 ∷ 0 ∷ []) ∷ [])
