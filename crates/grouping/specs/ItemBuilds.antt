-- Builds about subgroups, the work list and the fate of its items (steps 2 to 5). An answer of 2 is name 0.
use Rattle.std.specs.Prelude.{◌+◌, ◌^◌, [], ◌∷◌}
use Rattle.grouping.specs.Given.{Given}
use Rattle.grouping.specs.Builds.{row, group, priority, min_size, max_size, recursion_off, recursion_on, entries_aware, build}

-- In execution order: entries {0}, {0, 255}, {255}, {0, 255}, {0}, {255}. The subgroup {0}, of size 5 and number 0, joins {0, 255}, which has
-- number 1; {255} has 12 in all and stays.
unfoldable pub joins : Given
unfolding build row
joins =
    build 256 1 [] 0
    (row "a" 10 3 (1 + 2 ^ 255) []
    ∷ row "b" 40 1 (1 + 2 ^ 255) []
    ∷ row "c" 2 4 1 []
    ∷ row "d" 3 0 1 []
    ∷ row "e" 6 2 (2 ^ 255) []
    ∷ row "f" 6 5 (2 ^ 255) []
    ∷ [])
    (group (entries_aware 10 ∷ []) (2 ∷ 2 ∷ 2 ∷ 2 ∷ 2 ∷ 2 ∷ []) ∷ [])

-- In execution order the subgroups {2, 3} of size 20, {0} of size 1 and {0, 1} of size 2. The second joins the third, which has one entry that it
-- hasn't; that one, now of size 3, joins the first, and both modules end there.
unfoldable pub joins_again : Given
unfolding build row
joins_again =
    build 4 1 [] 0
    (row "a" 1 1 1 [] ∷ row "b" 2 2 3 [] ∷ row "c" 20 0 12 [] ∷ [])
    (group (entries_aware 10 ∷ []) (2 ∷ 2 ∷ 2 ∷ []) ∷ [])

-- Nothing is joined: group 0's threshold is 0, and group 1's is 5, where the sizes are 0, 6 and 5. The subgroups differ in the second and the
-- third word of their entry bits, and one has no entry. They run "b", "a", "c" and "f", "e", "d", and stand in the order of their ids.
unfoldable pub apart : Given
unfolding build row
apart =
    build 129 1 [] 0
    (row "a" 1 1 (2 ^ 64) []
    ∷ row "b" 2 0 (2 ^ 128) []
    ∷ row "c" 3 2 0 []
    ∷ row "d" 5 5 (2 ^ 64) []
    ∷ row "e" 6 4 (2 ^ 128) []
    ∷ row "f" 0 3 1 []
    ∷ [])
    (group (entries_aware 0 ∷ []) (2 ∷ 2 ∷ 2 ∷ 0 ∷ 0 ∷ 0 ∷ []) ∷ group (entries_aware 5 ∷ []) (0 ∷ 0 ∷ 0 ∷ 2 ∷ 2 ∷ 2 ∷ []) ∷ [])

-- In id order: "a" 5, "ma" 15, "mb" 10, "mc" 10, "md" 20. A cut after "a" is not allowed, since 5 is below min_size; without that it would be the
-- best one. "z" 40 has a name of its own.
unfoldable pub pieces : Given
unfolding build row
pieces =
    build 6 2 [] 0
    (row "mc" 10 2 1 [] ∷ row "a" 5 4 2 [] ∷ row "z" 40 1 16 [] ∷ row "ma" 15 0 4 [] ∷ row "mb" 10 3 8 [] ∷ row "md" 20 5 32 [] ∷ [])
    (group (min_size 10 ∷ max_size 20 ∷ []) (2 ∷ 2 ∷ 3 ∷ 2 ∷ 2 ∷ 2 ∷ []) ∷ [])

-- Group 0 has a min_size of 50 above its max_size of 20. Its name 0, of size 30, is below the one and above the other; its name 1, of size 60, has
-- no cut whose two sides reach 50.
unfoldable pub crossed : Given
unfolding build row
crossed =
    build 3 2 [] 0
    (row "c" 30 2 1 [] ∷ row "a" 30 0 2 [] ∷ row "b" 30 1 4 [] ∷ [])
    (group (min_size 50 ∷ max_size 20 ∷ []) (3 ∷ 2 ∷ 3 ∷ []) ∷ group [] (0 ∷ 2 ∷ 2 ∷ []) ∷ [])

-- Five groups over four modules. By priority: group 1 is dropped by the global min_size; group 2 takes module 0; group 3 is emptied; group 4 has
-- shrunk from 15 to 5 and is dropped; group 0, with recursion on, takes what they left.
unfoldable pub overlap : Given
unfolding build row
overlap =
    build 4 1 (min_size 100 ∷ recursion_off ∷ []) 0
    (row "a" 10 3 1 (2 ∷ []) ∷ row "b" 20 0 2 (2 ∷ []) ∷ row "c" 30 2 4 (3 ∷ []) ∷ row "d" 5 1 8 [] ∷ [])
    (group (priority 1 ∷ min_size 0 ∷ recursion_on ∷ []) (0 ∷ 2 ∷ 0 ∷ 0 ∷ [])
    ∷ group (priority 9 ∷ []) (2 ∷ 2 ∷ 0 ∷ 0 ∷ [])
    ∷ group (priority 5 ∷ min_size 10 ∷ []) (2 ∷ 0 ∷ 0 ∷ 0 ∷ [])
    ∷ group (priority 3 ∷ min_size 0 ∷ []) (2 ∷ 0 ∷ 0 ∷ 0 ∷ [])
    ∷ group (priority 2 ∷ min_size 10 ∷ []) (2 ∷ 0 ∷ 0 ∷ 2 ∷ [])
    ∷ [])

-- Group 1: the subgroup {0}, of size 5, joins {1}, so that the item has {0, 1}. Then group 0's chunk takes its only module with entry 0, and what
-- is left is cut into three by the global max_size.
unfoldable pub bits_stay : Given
unfolding build row
bits_stay =
    build 2 1 (max_size 8 ∷ []) 0
    (row "a" 5 0 1 [] ∷ row "b" 8 1 2 [] ∷ row "c" 8 2 2 [] ∷ row "d" 8 3 2 [] ∷ [])
    (group (priority 1 ∷ []) (2 ∷ 0 ∷ 0 ∷ 0 ∷ []) ∷ group (entries_aware 6 ∷ []) (2 ∷ 2 ∷ 2 ∷ 2 ∷ []) ∷ [])
