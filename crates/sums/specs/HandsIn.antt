-- What a build hands in of sizes and answers to the functions that go through them.
use Rattle.std.specs.Prelude.{ℕ, ◌*◌, List, ◌≡◌, length}
use Rattle.grouping.specs.Given.{Given}

-- flags and sizes of as many modules as there are
pub record HandsSizes (b : Given) (flags sizes : List ℕ) : Type 0 where
  pub module_count : b.shared.n ≡ length sizes
  pub flag_bytes : b.variant.flags ≡ flags
  pub sizes_of : b.shared.sizes ≡ sizes

-- an answer for each group and module, of k names
pub record HandsAnswers (b : Given) (answers : List ℕ) (k : ℕ) : Type 0 where
  pub name_count : b.shared.k ≡ k
  pub all_answers : b.variant.answers ≡ answers
  pub answer_count : b.variant.g * b.shared.n ≡ length answers

-- the same, with the counts of modules and groups
pub record HandsRows (b : Given) (answers : List ℕ) (n g k : ℕ) : Type 0 where
  pub module_count : b.shared.n ≡ n
  pub group_count : b.variant.g ≡ g
  pub name_count : b.shared.k ≡ k
  pub all_answers : b.variant.answers ≡ answers

-- no more (group, name) pairs than answers of 64 groups for 4,096 modules
abbrev pub pair_limit : ℕ
pair_limit = 262144
