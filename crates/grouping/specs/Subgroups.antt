-- Step 2: "An entries-aware set is divided by equal entry bits; subgroups are numbered by first appearance in execution order, then merged."
use Rattle.std.specs.Prelude.{ℕ, zero, suc, Bool, ◌&&◌, not, cond, List, [], ◌∷◌, map, eqb, length, get_or}
use Rattle.std.proofs.Math.Option.{some}
use Rattle.lists.specs.Keep.{keep}
use Rattle.lists.specs.Range.{range}
use Rattle.bitset.specs.Entries.{word_at}
use Rattle.bitset.specs.declared.entries.BitSet.{BitSet}
use Rattle.joins.specs.Subgroup.{Subgroup}
use Rattle.merge.specs.Merge.{Merging, merged}
use Rattle.options.specs.declared.Settings.{Settings}
use Rattle.grouping.specs.Tree.{Tree, member_at}
use Rattle.grouping.specs.Item.{Item}
use Rattle.grouping.specs.Sizes.{item_size}

-- "equal entry bits"
unfoldable pub same_bits : BitSet → BitSet → Bool
same_bits a b = eqb (word_at a 0) (word_at b 0) && (eqb (word_at a 1) (word_at b 1) && (eqb (word_at a 2) (word_at b 2) && eqb (word_at a 3) (word_at b 3)))

-- the different bits among the places, by first appearance; those of the first place are left out of the rest
unfoldable pub kinds_of : ℕ → List BitSet → List BitSet
unfolding keep same_bits
kinds_of zero l = []
kinds_of (suc most) [] = []
kinds_of (suc most) (b ∷ l) = b ∷ kinds_of most (keep (λ c. not (same_bits b c)) l)

-- the places with the bits of one kind
unfoldable pub places_of_kind : Tree → List ℕ → BitSet → List ℕ
unfolding keep same_bits
places_of_kind tree places kind = keep (λ p. same_bits kind (member_at tree p).bits) places

-- the subgroups before the merge, numbered from i
unfoldable pub subgroups_from : ℕ → Settings → Tree → List ℕ → List BitSet → List Subgroup
unfolding places_of_kind item_size
subgroups_from i r tree places [] = []
subgroups_from i r tree places (kind ∷ kinds) =
    record { number = i; size = item_size r tree (places_of_kind tree places kind); bits = kind } ∷ subgroups_from (suc i) r tree places kinds

-- the subgroups of a set, merged by the group's threshold
unfoldable pub merged_subgroups : Settings → Tree → List ℕ → List BitSet → Merging
unfolding merged subgroups_from range
merged_subgroups r tree places kinds =
    merged r.threshold (record { there = subgroups_from 0 r tree places kinds; finals = range 0 (length kinds) })

-- the number of the first kind that has these bits, counted from i
unfoldable pub kind_number : ℕ → List BitSet → BitSet → ℕ
unfolding same_bits
kind_number i [] b = i
kind_number i (kind ∷ kinds) b = cond (same_bits kind b) i (kind_number (suc i) kinds b)

-- the places whose subgroup has ended as the one of a number
unfoldable pub places_ended : Tree → List ℕ → List BitSet → List ℕ → ℕ → List ℕ
unfolding keep kind_number
places_ended tree places kinds finals number = keep (λ p. eqb (get_or finals (kind_number 0 kinds (member_at tree p).bits) 0) number) places

-- the item of a subgroup that is still there: its number, its united bits and the places that have ended there
abbrev pub item_of_subgroup : Settings → ℕ → ℕ → Tree → List ℕ → List BitSet → List ℕ → Subgroup → Item
item_of_subgroup r g name tree places kinds finals s =
    record {
      group = g;
      name = name;
      subgroup = s.number;
      settings = r;
      bits = some s.bits;
      places = places_ended tree places kinds finals s.number;
    }

-- the different bits of a set's places
abbrev pub kinds_at : Tree → List ℕ → List BitSet
kinds_at tree places = kinds_of (length places) (map (λ p. (member_at tree p).bits) places)

-- the items of an entries-aware set: its subgroups that are still there
unfoldable pub divided_items : Settings → ℕ → ℕ → Tree → List ℕ → List Item
unfolding kinds_of merged_subgroups places_ended
divided_items r g name tree places =
    let kinds = kinds_at tree places in
    let m = merged_subgroups r tree places kinds in
    map (item_of_subgroup r g name tree places kinds m.finals) m.there
