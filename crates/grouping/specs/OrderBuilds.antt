-- Builds about the order of subgroups of one (group, name): by the smallest id that they held when subgroups were finished. Modules are numbered
-- neither by their ids nor in execution order.
use Rattle.std.specs.Prelude.{ℕ, List, [], ◌∷◌}
use Rattle.grouping.specs.Given.{Given}
use Rattle.grouping.specs.Builds.{GroupRow, row, group, priority, max_size, entries_aware, build}

-- "m" with entry 1, and "a" and "z" with entry 0, in these execution orders
unfoldable three_ids : ℕ → ℕ → ℕ → List GroupRow → Given
unfolding build row
three_ids m a z groups = build 2 1 [] 0 (row "m" 1 m 2 [] ∷ row "a" 2 a 1 [] ∷ row "z" 4 z 1 [] ∷ []) groups

-- "m" runs first, then "z", then "a". {0} has number 1, its first module runs later than that of {1}, the id of its first module and its largest id
-- come after "m"; yet it comes first, since it holds "a".
unfoldable pub spread : Given
unfolding three_ids
spread = three_ids 0 2 1 (group (entries_aware 0 ∷ []) (2 ∷ 2 ∷ 2 ∷ []) ∷ [])

-- The same, but "a" runs first, then "z", then "m": {0} has number 0, and the chunks are as before, but for the order within the first.
unfoldable pub moved : Given
unfolding three_ids
moved = three_ids 2 0 1 (group (entries_aware 0 ∷ []) (2 ∷ 2 ∷ 2 ∷ []) ∷ [])

-- Group 1's chunk takes "a" before the subgroups of group 0 have their turn. What is left of {0} is "z", but it held "a" when subgroups were
-- finished, so it still comes before "m".
unfoldable pub left_before : Given
unfolding three_ids
left_before = three_ids 0 2 1 (group (entries_aware 0 ∷ []) (2 ∷ 2 ∷ 2 ∷ []) ∷ group (priority 1 ∷ []) (0 ∷ 2 ∷ 0 ∷ []) ∷ [])

-- {0} is cut by max_size into "a" and "z". Both pieces stand where {0} stood, before "m", and the right one, "z", comes first.
unfoldable pub cut_in_place : Given
unfolding three_ids
cut_in_place = three_ids 0 2 1 (group (entries_aware 0 ∷ max_size 4 ∷ []) (2 ∷ 2 ∷ 2 ∷ []) ∷ [])

-- "m" runs first, then "n", then "a". {0}, of size 1, joins {0, 2}, which differs from it in one entry, where {1} differs in two. By "n", its own id,
-- the target would come after {1}; by "a", which joined it, it comes first.
unfoldable pub joined_id : Given
unfolding build row
joined_id = build 3 1 [] 0 (row "m" 2 0 2 [] ∷ row "a" 1 2 1 [] ∷ row "n" 4 1 5 [] ∷ []) (group (entries_aware 2 ∷ []) (2 ∷ 2 ∷ 2 ∷ []) ∷ [])

-- "c" runs first, then "a", then "b". {0}, of size 1, is as near to {1} as to {2}, which are of one size. It joins {2}, which has the lower number
-- since "c" runs before "b"; by ids or load numbers it would be {1}.
unfoldable pub by_number : Given
unfolding build row
by_number = build 3 1 [] 0 (row "b" 2 2 2 [] ∷ row "a" 1 1 1 [] ∷ row "c" 2 0 4 [] ∷ []) (group (entries_aware 2 ∷ []) (2 ∷ 2 ∷ 2 ∷ []) ∷ [])
