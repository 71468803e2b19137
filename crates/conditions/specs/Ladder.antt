-- The conditions in the parts in which code tests them. 4 and 5 stand between the first part and the second, 8 between the second and the third.
use Rattle.std.specs.Prelude.{ℕ, List, [], ◌∷◌, ◌≡◌, length}
use Rattle.refusal.specs.Outcome.{Test, test}
use Rattle.grouping.specs.Given.{Given, Areas}
use Rattle.grouping.specs.Conditions.{count_above, bad_table, bad_id, bad_total, bad_dependency, bad_bit, bad_answer, pairs}
use Rattle.conditions.specs.declared.ModuleLengths.{ModuleLengths}
use Rattle.conditions.specs.declared.RecordLengths.{RecordLengths}
use Rattle.conditions.specs.declared.GroupLengths.{GroupLengths}
use Rattle.conditions.specs.declared.AreaLengths.{AreaLengths}
use Rattle.conditions.specs.HandsIn.{HandsCounts, HandsLengths, area_lengths}

-- 1 to 3: counts, lengths and ids
unfoldable pub shape_tests : Given → List Test
unfolding count_above bad_table bad_id
shape_tests b = test 1 (count_above b) ∷ test 2 (bad_table b) ∷ test 3 (bad_id b) ∷ []

-- 6 and 7: sizes and dependencies
unfoldable pub tree_tests : Given → List Test
unfolding bad_total bad_dependency
tree_tests b = test 6 (bad_total b) ∷ test 7 (bad_dependency b) ∷ []

-- 9 and 10: bits and answers
unfoldable pub value_tests : Given → List Test
unfolding bad_bit bad_answer
value_tests b = test 9 (bad_bit b) ∷ test 10 (bad_answer b) ∷ []

-- the counts, the lengths of all tables, and the ids
pub record HandsShape (b : Given) (n g e k d : ℕ) (modules : ModuleLengths) (records : RecordLengths) (groups : GroupLengths) (answers end : ℕ)
    (offsets : List ℕ) : Type 0 where
  pub counts : HandsCounts b n g e k d
  pub lengths : HandsLengths b n g d modules records groups answers
  pub bytes_end : length b.shared.bytes ≡ end
  pub id_offsets : b.shared.offsets ≡ offsets

-- the lent areas, and the counts that they are held to
pub record HandsAreas (b : Given) (a : Areas) (n count : ℕ) (lengths : AreaLengths) (scratch : ℕ) : Type 0 where
  pub module_count : b.shared.n ≡ n
  pub pair_count : pairs b ≡ count
  pub areas : area_lengths a ≡ lengths
  pub words : length a.scratch ≡ scratch
