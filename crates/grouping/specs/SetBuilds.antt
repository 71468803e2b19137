-- Builds about the tree and its sets (step 1). Modules, groups, entries and names are numbered from 0; an answer of 2 is name 0.
use Rattle.std.specs.Prelude.{◌+◌, ◌^◌, List, [], ◌∷◌, replicate}
use Rattle.grouping.specs.Given.{Given}
use Rattle.grouping.specs.Builds.{
  Choice,
  row,
  flagged,
  shared_by,
  tagged,
  group,
  min_size,
  max_size,
  min_module_size,
  max_module_size,
  min_share_count,
  tag_mask,
  entries_aware,
  unused,
  build,
}

-- document 01's case, with the options of its group 1
unfoldable pub paper : List Choice → Given
unfolding build row
paper choices =
    build 1 2 [] 0
    (row "app" 40 3 1 (1 ∷ [])
    ∷ row "lib/a" 10 1 1 (2 ∷ [])
    ∷ row "lib/b" 20 2 1 []
    ∷ row "theme" 30 0 1 []
    ∷ [])
    (group [] (0 ∷ 2 ∷ 0 ∷ 0 ∷ []) ∷ group choices (3 ∷ 0 ∷ 0 ∷ 0 ∷ []) ∷ [])

-- Module 0 names 1, which is assigned and names 2; and 3, which names 0 again and 4, which is not included. Module 5 names 0; it is matched and
-- doesn't pass the filter, and 3 wouldn't.
unfoldable pub in_the_way : Given
unfolding build row flagged shared_by
in_the_way =
    build 3 1 [] 0
    (shared_by 2 (row "a" 1 5 1 (1 ∷ 3 ∷ []))
    ∷ flagged 7 (shared_by 2 (row "b" 2 1 4 (2 ∷ [])))
    ∷ shared_by 2 (row "c" 4 2 4 [])
    ∷ row "d" 8 0 2 (0 ∷ 4 ∷ [])
    ∷ flagged 1 (row "e" 16 3 4 (2 ∷ []))
    ∷ row "f" 32 4 4 (0 ∷ [])
    ∷ [])
    (group (min_share_count 2 ∷ []) (2 ∷ 2 ∷ 0 ∷ 0 ∷ 0 ∷ 2 ∷ []) ∷ [])

-- Four groups match all. A mask of 6 asks for two bits, of which only module 0 has both; one of 2^63 + 4 is met by module 2; one of 5 by modules 0,
-- 1 and 2; and a mask of zero asks nothing.
unfoldable pub masked : Given
unfolding build row tagged
masked =
    build 4 1 [] 0
    (tagged 7 (row "a" 1 2 1 [])
    ∷ tagged 5 (row "b" 2 0 2 [])
    ∷ tagged (2 ^ 63 + 5) (row "c" 4 3 4 [])
    ∷ row "d" 8 1 8 []
    ∷ [])
    (group (tag_mask 6 ∷ []) (2 ∷ 2 ∷ 2 ∷ 2 ∷ [])
    ∷ group (tag_mask (2 ^ 63 + 4) ∷ []) (2 ∷ 2 ∷ 2 ∷ 2 ∷ [])
    ∷ group (tag_mask 5 ∷ []) (2 ∷ 2 ∷ 2 ∷ 2 ∷ [])
    ∷ group [] (2 ∷ 2 ∷ 2 ∷ 2 ∷ [])
    ∷ [])

-- Global module sizes 10 to 20 and share count 3. Group 0 has no option, and numbers in the tables of those that it doesn't have; the others have
-- each one limit of their own, and take what it lets in: 21, 9, and a share count of 2.
unfoldable pub limited : Given
unfolding build row shared_by
limited =
    build 5 1 (min_module_size 10 ∷ max_module_size 20 ∷ min_share_count 3 ∷ []) 0
    (shared_by 3 (row "a" 9 4 1 [])
    ∷ shared_by 3 (row "b" 10 3 2 [])
    ∷ shared_by 3 (row "c" 20 2 4 [])
    ∷ shared_by 3 (row "d" 21 1 8 [])
    ∷ shared_by 2 (row "e" 15 0 16 [])
    ∷ [])
    (group
    (unused (min_size 1000)
    ∷ unused (max_size 1)
    ∷ unused (min_module_size 16)
    ∷ unused (max_module_size 1)
    ∷ unused (min_share_count 9)
    ∷ unused (entries_aware 50)
    ∷ [])
    (2 ∷ 2 ∷ 2 ∷ 2 ∷ 2 ∷ [])
    ∷ group (max_module_size 21 ∷ []) (2 ∷ 2 ∷ 2 ∷ 2 ∷ 2 ∷ [])
    ∷ group (min_module_size 9 ∷ []) (2 ∷ 2 ∷ 2 ∷ 2 ∷ 2 ∷ [])
    ∷ group (min_share_count 2 ∷ []) (2 ∷ 2 ∷ 2 ∷ 2 ∷ 2 ∷ [])
    ∷ [])

-- No option anywhere. Module 2 names 1, which names 3, which names 0. Module 4, of size 0, is matched without a name in group 0 and with one in
-- group 1. Entries in every word.
unfoldable pub deep : Given
unfolding build row
deep =
    build 256 1 [] 0
    (row "d" 8 2 (2 ^ 64) []
    ∷ row "b" 2 4 (2 ^ 130) (3 ∷ [])
    ∷ row "a" 1 0 1 (1 ∷ [])
    ∷ row "c" 4 3 (2 ^ 191 + 2 ^ 192) (0 ∷ [])
    ∷ row "e" 0 1 (2 ^ 127) []
    ∷ [])
    (group [] (0 ∷ 0 ∷ 2 ∷ 0 ∷ 1 ∷ []) ∷ group [] (0 ∷ 0 ∷ 0 ∷ 0 ∷ 2 ∷ []) ∷ [])

-- no module; the most groups and entries
unfoldable pub no_modules : Given
unfolding build
no_modules = build 256 1 [] 7 [] (replicate 64 (group [] []))

-- no group
unfoldable pub no_groups : Given
unfolding build row
no_groups = build 1 1 [] 0 (row "a" 1 0 1 [] ∷ row "b" 2 1 1 (0 ∷ []) ∷ []) []
