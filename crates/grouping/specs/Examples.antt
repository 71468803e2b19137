-- The worked examples: each build with what must come out, and what it shows. `gives` takes P, each module's chunk number plus 1, each module's
-- next module plus 1, and the chunk records.
use Rattle.std.specs.Prelude.{◌+◌, ◌-◌, ◌^◌, List, [], ◌∷◌}
use Rattle.grouping.specs.Builds.{priority, min_size, recursion_off, recursion_on}
use Rattle.grouping.specs.SetBuilds.{paper, in_the_way, masked, limited, deep, no_modules, no_groups}
use Rattle.grouping.specs.ItemBuilds.{joins, joins_again, apart, pieces, crossed, overlap, bits_stay}
use Rattle.grouping.specs.OrderBuilds.{spread, moved, left_before, cut_in_place, joined_id, by_number}
use Rattle.grouping.specs.MarkBuilds.{too_large, maxima, shrunk}
use Rattle.grouping.specs.TwinBuilds.{ties, renumbered}
use Rattle.grouping.specs.Refusals.{sound}
use Rattle.grouping.specs.Expected.{Example, chunk, marked, gives, gives_in, gives_from}

unfoldable pub examples : List Example
unfolding gives_from paper in_the_way masked limited deep no_modules no_groups joins joins_again apart pieces crossed overlap bits_stay
    spread moved left_before cut_in_place joined_id by_number too_large maxima shrunk ties renumbered sound
examples =
    -- document 01's case: the higher priority first, recursion on by default and off in group 1
    gives (paper (priority 5 ∷ recursion_off ∷ [])) 2 (1 ∷ 2 ∷ 2 ∷ 0 ∷ []) (0 ∷ 3 ∷ 0 ∷ 0 ∷ []) (chunk 1 1 1 40 1 ∷ chunk 2 0 0 30 1 ∷ [])
    -- "With recursion on in group 1: one chunk, 70": group 0's item is emptied
    ∷ gives (paper (priority 5 ∷ recursion_on ∷ [])) 2 (1 ∷ 1 ∷ 1 ∷ 0 ∷ []) (0 ∷ 3 ∷ 1 ∷ 0 ∷ []) (chunk 2 1 1 70 1 ∷ [])
    -- "With its min_size 41 instead: only group 0's"
    ∷ gives (paper (priority 5 ∷ recursion_off ∷ min_size 41 ∷ [])) 2 (0 ∷ 1 ∷ 1 ∷ 0 ∷ []) (0 ∷ 3 ∷ 0 ∷ 0 ∷ []) (chunk 2 0 0 30 1 ∷ [])
    -- "40 still passes"; in areas without an entry to spare
    ∷ gives_in 0 1000 (paper (priority 5 ∷ recursion_off ∷ min_size 40 ∷ [])) 2 (1 ∷ 2 ∷ 2 ∷ 0 ∷ []) (0 ∷ 3 ∷ 0 ∷ 0 ∷ [])
    (chunk 1 1 1 40 1 ∷ chunk 2 0 0 30 1 ∷ [])
    -- the first new chunk in record 2: those before it stay as they were
    ∷ gives_from 2 1 1000 (paper (priority 5 ∷ recursion_off ∷ [])) 2 (1 ∷ 2 ∷ 2 ∷ 0 ∷ []) (0 ∷ 3 ∷ 0 ∷ 0 ∷ [])
    (chunk 1 1 1 40 1 ∷ chunk 2 0 0 30 1 ∷ [])
    -- an assigned module is not walked through, dependencies are not filtered, and no one is captured who only names
    ∷ gives in_the_way 1 (1 ∷ 0 ∷ 0 ∷ 1 ∷ 0 ∷ 0 ∷ []) (0 ∷ 0 ∷ 0 ∷ 1 ∷ 0 ∷ 0 ∷ []) (chunk 4 0 0 9 3 ∷ [])
    -- a mask of several bits, of which a module may have only some; a mask of zero
    ∷ gives masked 4 (1 ∷ 3 ∷ 2 ∷ 4 ∷ []) (0 ∷ 0 ∷ 0 ∷ 0 ∷ [])
    (chunk 1 0 0 1 1 ∷ chunk 3 1 0 4 4 ∷ chunk 2 2 0 2 2 ∷ chunk 4 3 0 8 8 ∷ [])
    -- both module size limits inclusive, each of three global options under a group's own, and values of absent options that don't matter
    ∷ gives limited 4 (3 ∷ 1 ∷ 1 ∷ 2 ∷ 4 ∷ []) (0 ∷ 0 ∷ 2 ∷ 0 ∷ 0 ∷ [])
    (chunk 3 0 0 30 6 ∷ chunk 4 1 0 21 8 ∷ chunk 1 2 0 9 1 ∷ chunk 5 3 0 15 16 ∷ [])
    -- recursion and min_size by default, a capture three steps deep, an answer of 1, and a chunk of size 0
    ∷ gives deep 2 (1 ∷ 1 ∷ 1 ∷ 1 ∷ 2 ∷ []) (4 ∷ 0 ∷ 1 ∷ 2 ∷ 0 ∷ [])
    (chunk 3 0 0 15 (1 + 2 ^ 64 + 2 ^ 130 + 2 ^ 191 + 2 ^ 192) ∷ chunk 5 1 0 0 (2 ^ 127) ∷ [])
    -- N = 0 gives no chunk
    ∷ gives no_modules 0 [] [] []
    -- G = 0 gives no chunk, and each module's entries are 0
    ∷ gives no_groups 0 (0 ∷ 0 ∷ []) (0 ∷ 0 ∷ []) []
    -- a join: modules, sizes and bits of both, and the smallest id of all
    ∷ gives joins 1 (1 ∷ 1 ∷ 1 ∷ 1 ∷ 2 ∷ 2 ∷ []) (3 ∷ 1 ∷ 0 ∷ 2 ∷ 6 ∷ 0 ∷ []) (chunk 4 0 0 55 (1 + 2 ^ 255) ∷ chunk 5 0 0 12 (2 ^ 255) ∷ [])
    -- a joined subgroup that joins again
    ∷ gives joins_again 1 (1 ∷ 1 ∷ 1 ∷ []) (2 ∷ 0 ∷ 1 ∷ []) (chunk 3 0 0 23 15 ∷ [])
    -- a threshold of 0, one that is a size itself, and a subgroup of size 0; as many chunks as modules, by ids and not as they run
    ∷ gives apart 2 (1 ∷ 2 ∷ 3 ∷ 4 ∷ 5 ∷ 6 ∷ []) (0 ∷ 0 ∷ 0 ∷ 0 ∷ 0 ∷ 0 ∷ [])
    (chunk 1 0 0 1 (2 ^ 64) ∷ chunk 2 0 0 2 (2 ^ 128) ∷ chunk 3 0 0 3 0
    ∷ chunk 4 1 0 5 (2 ^ 64) ∷ chunk 5 1 0 6 (2 ^ 128) ∷ chunk 6 1 0 0 1 ∷ [])
    -- a cut into three, the right piece's pieces first, each exactly at max_size; and an item above it that cannot be cut
    ∷ gives pieces 2 (2 ∷ 3 ∷ 4 ∷ 3 ∷ 2 ∷ 1 ∷ []) (5 ∷ 0 ∷ 0 ∷ 2 ∷ 0 ∷ 0 ∷ [])
    (chunk 6 0 0 20 32 ∷ chunk 1 0 0 20 9 ∷ chunk 4 0 0 20 6 ∷ marked 1 3 0 1 40 16 ∷ [])
    -- an item both below min_size and above max_size is dropped, and one that only a too small piece could part stays whole
    ∷ gives crossed 3 (1 ∷ 2 ∷ 1 ∷ []) (0 ∷ 0 ∷ 1 ∷ []) (marked 2 3 0 1 60 5 ∷ chunk 2 1 0 30 2 ∷ [])
    -- dropped items whose modules stay for later ones, an emptied item, and groups' options over global ones
    ∷ gives overlap 5 (1 ∷ 2 ∷ 2 ∷ 2 ∷ []) (0 ∷ 4 ∷ 0 ∷ 3 ∷ []) (chunk 1 2 0 10 1 ∷ chunk 2 0 0 55 14 ∷ [])
    -- an entries-aware item keeps its bits after a module left and after a cut
    ∷ gives bits_stay 2 (1 ∷ 4 ∷ 3 ∷ 2 ∷ []) (0 ∷ 0 ∷ 0 ∷ 0 ∷ []) (chunk 1 0 0 5 1 ∷ chunk 4 1 0 8 3 ∷ chunk 3 1 0 8 3 ∷ chunk 2 1 0 8 3 ∷ [])
    -- the subgroup with the smallest id first, against number, execution order, the id that runs first and the largest id
    ∷ gives spread 1 (2 ∷ 1 ∷ 1 ∷ []) (0 ∷ 0 ∷ 2 ∷ []) (chunk 3 0 0 6 1 ∷ chunk 1 0 0 1 2 ∷ [])
    -- the modules before in another execution order: the same chunks, in the same order
    ∷ gives moved 1 (2 ∷ 1 ∷ 1 ∷ []) (0 ∷ 3 ∷ 0 ∷ []) (chunk 2 0 0 6 1 ∷ chunk 1 0 0 1 2 ∷ [])
    -- a smallest id that has left its item counts all the same
    ∷ gives left_before 2 (3 ∷ 1 ∷ 2 ∷ []) (0 ∷ 0 ∷ 0 ∷ []) (chunk 2 1 0 2 1 ∷ chunk 3 0 0 4 1 ∷ chunk 1 0 0 1 2 ∷ [])
    -- the pieces of a cut where their item stood, the right one first
    ∷ gives cut_in_place 1 (3 ∷ 2 ∷ 1 ∷ []) (0 ∷ 0 ∷ 0 ∷ []) (chunk 3 0 0 4 1 ∷ chunk 2 0 0 2 1 ∷ chunk 1 0 0 1 2 ∷ [])
    -- the smallest id from the part that joined
    ∷ gives joined_id 1 (2 ∷ 1 ∷ 1 ∷ []) (0 ∷ 0 ∷ 2 ∷ []) (chunk 3 0 0 5 5 ∷ chunk 1 0 0 2 2 ∷ [])
    -- a join that is decided by number, which is by execution order
    ∷ gives by_number 1 (2 ∷ 1 ∷ 1 ∷ []) (0 ∷ 0 ∷ 2 ∷ []) (chunk 3 0 0 3 5 ∷ chunk 1 0 0 2 2 ∷ [])
    -- marks: at the maximum, one module above it, no cut allowed because of one side, none in id order, and a size of nearly 2^53 without a maximum
    ∷ gives too_large 5 (4 ∷ 4 ∷ 4 ∷ 3 ∷ 3 ∷ 1 ∷ 1 ∷ 2 ∷ 5 ∷ []) (2 ∷ 3 ∷ 0 ∷ 0 ∷ 4 ∷ 0 ∷ 6 ∷ 0 ∷ 0 ∷ [])
    (marked 0 7 0 0 8 1 ∷ marked 1 8 0 1 9 1 ∷ marked 2 5 0 2 9 1 ∷ marked 2 1 0 3 12 1 ∷ marked 0 9 1 0 (2 ^ 53 - 38) 1 ∷ [])
    -- the pieces of a cut have marks of their own, and a group's maximum counts over the global one, where it is above it and where it is below
    ∷ gives maxima 3 (4 ∷ 2 ∷ 1 ∷ 3 ∷ []) (0 ∷ 0 ∷ 0 ∷ 0 ∷ [])
    (marked 0 3 0 0 1 1 ∷ marked 1 2 0 0 9 1 ∷ marked 0 4 1 0 9 1 ∷ marked 1 1 2 0 4 1 ∷ [])
    -- what is left of an item has its own mark: 1 and 0, where both items began with two modules above the maximum that no cut could part
    ∷ gives shrunk 3 (2 ∷ 1 ∷ 1 ∷ 3 ∷ []) (0 ∷ 3 ∷ 0 ∷ 0 ∷ []) (marked 0 2 1 0 4 1 ∷ marked 1 1 0 0 8 1 ∷ marked 0 4 0 1 4 1 ∷ [])
    -- ties go to the lower group and to the lower name; chunk numbers go on from the count on entry
    ∷ gives ties 3 (65537 ∷ 65536 ∷ 65536 ∷ 65537 ∷ 65538 ∷ []) (0 ∷ 3 ∷ 0 ∷ 1 ∷ 0 ∷ []) (chunk 2 0 0 50 3 ∷ chunk 4 0 1 50 5 ∷ chunk 5 1 0 60 1 ∷ [])
    -- the build before, renumbered, in other areas
    ∷ gives_in 3 2000 renumbered 3 (65536 ∷ 65537 ∷ 65538 ∷ 65537 ∷ 65536 ∷ []) (5 ∷ 4 ∷ 0 ∷ 0 ∷ 0 ∷ [])
    (chunk 1 0 0 50 3 ∷ chunk 2 0 1 50 5 ∷ chunk 3 1 0 60 1 ∷ [])
    -- the build of the refusals, unchanged
    ∷ gives_in 0 1000 sound 5 (1 ∷ 1 ∷ 0 ∷ 0 ∷ []) (0 ∷ 1 ∷ 0 ∷ 0 ∷ []) (chunk 2 0 0 30 17 ∷ [])
    ∷ []
