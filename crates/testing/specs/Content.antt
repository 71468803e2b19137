-- 6 to 10, what they ask of the tables, and what a build hands in for them.
use Rattle.std.specs.Prelude.{ℕ, ◌*◌, ◌≤◌, List, ◌∷◌, ◌++◌, ◌≡◌, length}
use Rattle.refusal.specs.Counts.{name_limit}
use Rattle.refusal.specs.Outcome.{Test, test}
use Rattle.records.specs.Bad.{RecordTables}
use Rattle.options.specs.declared.Options.{Options}
use Rattle.options.specs.Tables.{GroupTables}
use Rattle.grouping.specs.Given.{Given}
use Rattle.grouping.specs.Conditions.{bad_limit}
use Rattle.sums.specs.HandsIn.{HandsSizes, HandsAnswers}
use Rattle.conditions.specs.HandsIn.{HasGroups, HandsRecords, HandsBits, HandsOptions}
use Rattle.conditions.specs.Ladder.{tree_tests, value_tests}

unfoldable pub content_tests : Given → List Test
unfolding tree_tests bad_limit value_tests
content_tests b = tree_tests b ++ (test 8 (bad_limit b) ∷ value_tests b)

-- tables that conditions 1 and 2 leave
pub record ContentReady (n g k d : ℕ) (flags sizes bits first dependency next : List ℕ) (t : GroupTables) : Type 0 where
  pub names : k ≤ name_limit
  pub flag_bytes : length flags ≡ n
  pub sizes_of : length sizes ≡ n
  pub entry_bits : length bits ≡ 4 * n
  pub records : RecordTables first dependency next n d
  pub groups : HasGroups t g

-- the build hands in these tables and options
pub record HandsContent (b : Given) (n g e k d : ℕ) (flags sizes bits first dependency next answers : List ℕ) (options : Options) (t : GroupTables)
    : Type 0 where
  pub sizes_of : HandsSizes b flags sizes
  pub records : HandsRecords b first dependency next n d
  pub limits : HandsOptions b options g t
  pub entry_bits : HandsBits b flags bits n e
  pub all_answers : HandsAnswers b answers k
