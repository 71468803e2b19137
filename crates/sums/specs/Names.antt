-- A row of answers, that of one group, and a byte for each answer in which a mark says that the answer was met.
use Rattle.std.specs.Prelude.{ℕ, ◌+◌, ◌*◌, ◌-◌, ◌≤◌, ◌<◌, Bool, List, map, ◌≡◌, eqb, length, get_or, take, drop}
use Rattle.lists.specs.Below.{any_below, count_below}
use Rattle.lists.specs.Range.{range}
use Rattle.lists.specs.Sum.{sum}
use Rattle.refusal.specs.Counts.{module_limit, group_limit, name_limit}
use Rattle.grouping.specs.Given.{Given}
use Rattle.grouping.specs.Conditions.{pairs}
use Rattle.sums.specs.HandsIn.{HandsRows}

-- one of the first so many answers of a row is that answer
unfoldable pub met_in : List ℕ → ℕ → ℕ → Bool
unfolding any_below
met_in row i answer = any_below (λ m. eqb (get_or row m 0) answer) i

-- the distinct answers below k of a row
unfoldable pub answers_in : List ℕ → ℕ → ℕ
unfolding count_below met_in
answers_in row k = count_below (met_in row (length row)) k

-- the distinct names below k among a row's answers of 2 or more
unfoldable pub names_in : List ℕ → ℕ → ℕ
unfolding count_below met_in
names_in row k = count_below (λ name. met_in row (length row) (2 + name)) k

-- an answer has the mark
abbrev pub has : List ℕ → ℕ → ℕ → Bool
has seen mark answer = eqb (get_or seen answer 0) mark

-- there is a byte for each answer, named or not, and no byte has the mark yet
pub record RowReady (row seen : List ℕ) (mark : ℕ) : Type 0 where
  pub unnamed : 2 ≤ length seen
  pub within : (m : ℕ) → m < length row → get_or row m 0 < length seen
  pub unmarked : (answer : ℕ) → get_or seen answer 0 < mark

-- the count is that of the row's answers, which have the mark, and no byte is above the mark
pub record AnswersCounted (row seen after : List ℕ) (mark count : ℕ) : Type 0 where
  pub counted : count ≡ answers_in row (length seen)
  pub marks : (answer : ℕ) → answer < length seen → has after mark answer ≡ met_in row (length row) answer
  pub few : count ≤ length row
  pub same_length : length after ≡ length seen
  pub within : (answer : ℕ) → get_or after answer 0 ≤ mark

-- the count is that of the row's names
pub record RowCounted (row seen after : List ℕ) (mark count : ℕ) : Type 0 where
  pub counted : count ≡ names_in row (length seen - 2)
  pub few : count ≤ length row
  pub same_length : length after ≡ length seen
  pub within : (answer : ℕ) → get_or after answer 0 ≤ mark

-- the answers of group i
unfoldable pub row_at : List ℕ → ℕ → ℕ → List ℕ
row_at answers n i = take n (drop (i * n) answers)

-- the distinct names below k of g groups of answers, added
unfoldable pub names_of_rows : List ℕ → ℕ → ℕ → ℕ → ℕ
unfolding sum range names_in row_at
names_of_rows answers k n g = sum (map (λ i. names_in (row_at answers n i) k) (range 0 g))

-- what g rows of n answers need: a byte for each answer, all of them zero, and a mark for each group
pub record RowsReady (answers seen : List ℕ) (n g : ℕ) : Type 0 where
  pub unnamed : 2 ≤ length seen
  pub whole : length answers ≡ g * n
  pub modules : n ≤ module_limit
  pub groups : g ≤ group_limit
  pub within : (j : ℕ) → j < length answers → get_or answers j 0 < length seen
  pub clear : (answer : ℕ) → get_or seen answer 0 ≡ 0

pub record RowsCounted (answers : List ℕ) (k n g count : ℕ) : Type 0 where
  pub counted : count ≡ names_of_rows answers k n g
  pub few : count ≤ g * n

-- answers that refusals 1, 2 and 10 leave
pub record AnswersWithin (answers : List ℕ) (n g k : ℕ) : Type 0 where
  pub whole : length answers ≡ g * n
  pub modules : n ≤ module_limit
  pub groups : g ≤ group_limit
  pub names : k ≤ name_limit
  pub named : (j : ℕ) → j < length answers → get_or answers j 0 < k + 2

-- P of every build that hands in these answers, and that it is no more than the answers
pub record PairsCounted (answers : List ℕ) (n g k count : ℕ) : Type 0 where
  pub counted : (b : Given) → HandsRows b answers n g k → count ≡ pairs b
  pub few : count ≤ g * n
