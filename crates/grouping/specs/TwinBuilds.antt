-- A build, and the same under a renumbering of its modules.
use Rattle.std.specs.Prelude.{[], ◌∷◌}
use Rattle.grouping.specs.Given.{Given}
use Rattle.grouping.specs.Builds.{bytes_of, row, group, build}

-- Two groups of one priority, the first with two names, over overlapping sets {1, 2}, {0, 2, 3} and {2, 3, 4}, and the highest count on entry.
unfoldable pub ties : Given
unfolding build row
ties =
    build 3 2 [] 65535
    (row "main" 10 4 1 (2 ∷ 3 ∷ []) ∷ row "ui/a" 20 1 2 (2 ∷ []) ∷ row "ui/b" 30 3 3 [] ∷ row "log" 40 0 4 [] ∷ row "net" 60 2 1 [] ∷ [])
    (group [] (3 ∷ 2 ∷ 0 ∷ 0 ∷ 0 ∷ []) ∷ group [] (0 ∷ 0 ∷ 2 ∷ 2 ∷ 2 ∷ []) ∷ [])

-- The same under the renumbering 0 to 3, 1 to 0, 2 to 4, 3 to 1, 4 to 2: module 3's chain names 1, 4 and 1 again, record 3 is on no chain, D is 5
-- instead of 3, and the ids begin at byte 2 of their slice.
unfoldable pub renumbered : Given
unfolding ties bytes_of
renumbered =
    record {
      shared =
          record {
            n = 5;
            e = 3;
            k = 2;
            d = 5;
            sizes = 20 ∷ 40 ∷ 60 ∷ 10 ∷ 30 ∷ [];
            orders = 1 ∷ 0 ∷ 2 ∷ 4 ∷ 3 ∷ [];
            shares = 1 ∷ 1 ∷ 1 ∷ 1 ∷ 1 ∷ [];
            tags = 0 ∷ 0 ∷ 0 ∷ 0 ∷ 0 ∷ [];
            bits = 2 ∷ 0 ∷ 0 ∷ 0 ∷ 4 ∷ 0 ∷ 0 ∷ 0 ∷ 1 ∷ 0 ∷ 0 ∷ 0 ∷ 1 ∷ 0 ∷ 0 ∷ 0 ∷ 3 ∷ 0 ∷ 0 ∷ 0 ∷ [];
            bytes = bytes_of "??ui/alognetmainui/b!";
            offsets = 2 ∷ 6 ∷ 9 ∷ 12 ∷ 16 ∷ 20 ∷ [];
            first = 4 ∷ 0 ∷ 0 ∷ 5 ∷ 0 ∷ [];
            dependency = 99 ∷ 1 ∷ 4 ∷ 2 ∷ 4 ∷ 1 ∷ [];
            next = 99 ∷ 0 ∷ 1 ∷ 3 ∷ 0 ∷ 2 ∷ [];
            options = ties.shared.options;
          };
      variant =
          record {
            flags = 3 ∷ 3 ∷ 3 ∷ 3 ∷ 3 ∷ [];
            g = 2;
            groups = ties.variant.groups;
            answers = 2 ∷ 0 ∷ 0 ∷ 3 ∷ 0 ∷ 0 ∷ 2 ∷ 2 ∷ 0 ∷ 2 ∷ [];
          };
      on_entry = 65535;
    }
