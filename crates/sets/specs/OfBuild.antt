-- What one group of a build reads, and the numbers that it is left with.
use Rattle.std.specs.Prelude.{ℕ, ◌*◌, List, eqb, ltb, length, take, drop}
use Rattle.lists.specs.Keep.{keep}
use Rattle.lists.specs.Packed.{key_of}
use Rattle.lists.specs.Range.{range}
use Rattle.lists.specs.Sort.{sort_by}
use Rattle.grouping.specs.Given.{Given}
use Rattle.grouping.specs.Settings.{settings_of}
use Rattle.grouping.specs.Tree.{places_of, tree_of, member_at}
use Rattle.grouping.specs.Sets.{takes_part}
use Rattle.matching.specs.Matched.{Matching, keys_of}

-- "one u32 for each group and module, group by group": those of group g
abbrev pub answers_of : Given → ℕ → List ℕ
answers_of b g = take b.shared.n (drop (g * b.shared.n) b.variant.answers)

abbrev pub matching_of : Given → ℕ → Matching
matching_of b g =
    record {
      filter = (settings_of b g).filter;
      answers = answers_of b g;
      tags = b.shared.tags;
      sizes = b.shared.sizes;
      shares = b.shared.shares;
    }

-- the modules of group g that take part, by name
unfoldable pub matched_of : Given → ℕ → List ℕ
unfolding sort_by keys_of places_of settings_of
matched_of b g = sort_by ltb (keys_of (matching_of b g) (places_of b))

-- those of one name: a run of them
unfoldable pub run_of : Given → ℕ → ℕ → List ℕ
unfolding keep matched_of
run_of b g name = keep (λ x. eqb (key_of x) name) (matched_of b g)

-- the places that take part with a name, ascending
unfoldable pub taking_places : Given → ℕ → ℕ → List ℕ
unfolding keep takes_part range places_of tree_of settings_of
taking_places b g name = keep (λ p. takes_part (settings_of b g) g name (member_at (tree_of b) p)) (range 0 (length (places_of b)))
