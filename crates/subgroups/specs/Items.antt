-- The items of an entries-aware set as a run over its divided positions meets them: the positions of a subgroup stand together, subgroups by the
-- lowest rank in them.
use Rattle.std.specs.Prelude.{ℕ, List, map, nat_eq, slice_index}
use Rattle.std.proofs.Math.Option.{some}
use Rattle.lists.specs.Keep.{keep}
use Rattle.lists.specs.Keys.{keys_in}
use Rattle.lists.specs.Packed.{key_of, item_of}
use Rattle.division.specs.Divided.{lowest_rank}
use Rattle.bitset.specs.Entries.{row_of}
use Rattle.options.specs.declared.Settings.{Settings}
use Rattle.grouping.specs.Tree.{Tree}
use Rattle.grouping.specs.Item.{Item}
use Rattle.grouping.specs.Subgroups.{merged_subgroups, places_ended, kinds_at}

-- the modules of subgroup s
abbrev pub modules_in : List ℕ → List ℕ → ℕ → List ℕ
modules_in set order s = map (λ x. slice_index set (item_of x)) (keep (λ x. nat_eq (key_of x) s) order)

-- the lowest rank in subgroup s
abbrev pub lowest_in : List ℕ → List ℕ → List ℕ → ℕ → ℕ
lowest_in set rank order s = lowest_rank rank (modules_in set order s)

-- the same for the subgroup of an entry of the order
abbrev pub turn_key : List ℕ → List ℕ → List ℕ → ℕ → ℕ
turn_key set rank order x = lowest_in set rank order (key_of x)

-- the lowest ranks of the subgroups with an entry in a part of the order, which is how a run meets them
abbrev pub turns_in : List ℕ → List ℕ → List ℕ → List ℕ → List ℕ
turns_in set rank order part = keys_in (turn_key set rank order) 4096 part

-- the number of the subgroup whose lowest rank is k
unfoldable pub number_of : List ℕ → List ℕ → List ℕ → ℕ → ℕ
unfolding keep lowest_rank
number_of set rank order k = key_of (slice_index (keep (λ x. nat_eq (turn_key set rank order x) k) order) 0)

-- the item of subgroup s, whose united bits stand in its row
abbrev pub item_numbered : Settings → ℕ → ℕ → Tree → List ℕ → List ℕ → ℕ → Item
item_numbered r g name tree places rows s =
    record {
      group = g;
      name = name;
      subgroup = s;
      settings = r;
      bits = some (row_of rows s);
      places = places_ended tree places (kinds_at tree places) (merged_subgroups r tree places (kinds_at tree places)).finals s;
    }
