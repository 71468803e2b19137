-- What the answers of the tests say of every build that hands in these counts, tables and options.
use Rattle.std.specs.Prelude.{ℕ, false, List, ◌∷◌, ◌≡◌, length, take, Result}
use Rattle.lists.specs.Sort.{sort_by}
use Rattle.refusal.specs.Outcome.{accepted, Test, test, outcome}
use Rattle.refusal.specs.Answers.{outcome_of}
use Rattle.refusal.specs.declared.Refusal.{Refusal}
use Rattle.grouping.specs.Given.{Given, Shared, Variant, Areas}
use Rattle.grouping.specs.Tree.{runs_before}
use Rattle.grouping.specs.Conditions.{shared_id, shared_order, input_tests}
use Rattle.settling.specs.Modules as settling
use Rattle.conditions.specs.declared.AreaLengths.{AreaLengths}
use Rattle.sums.specs.HandsIn.{HandsRows}
use Rattle.conditions.specs.HandsIn.{area_lengths}
use Rattle.places.specs.Ordered.{listed_of, BothOrders}
use Rattle.testing.specs.Content.{content_tests}

-- the build hands in all of this; its chunk count on entry is free
pub record HandsAll (b : Given) (s : Shared) (v : Variant) : Type 0 where
  pub shared : b.shared ≡ s
  pub variant : b.variant ≡ v

-- 4 to 10
unfoldable pub order_tests : Given → List Test
unfolding shared_id shared_order content_tests
order_tests b = test 4 (shared_id b) ∷ test 5 (shared_order b) ∷ content_tests b

-- the answer to 4 to 10, and where 4 and 5 do not apply, both orders
pub record OrderTested (b : Given) (r : Result ℕ Refusal) (by_order by-order' rank rank' : List ℕ) : Type 0 where
  pub answer : outcome_of r ≡ outcome (order_tests b) (length (listed_of b))
  pub ordered : shared_id b ≡ false → shared_order b ≡ false → BothOrders b by-order' rank rank'
  pub order_length : length by-order' ≡ length by_order
  pub rank_length : length rank' ≡ length rank

-- the answer to 1 to 10 is the count of normal included modules if none applies, and both orders are left then
pub record InputTested (b : Given) (r : Result ℕ Refusal) (by_order by-order' rank rank' : List ℕ) : Type 0 where
  pub answer : outcome_of r ≡ outcome (input_tests b) (length (listed_of b))
  pub ordered : settling.Passed b → BothOrders b by-order' rank rank'
  pub order_length : length by-order' ≡ length by_order
  pub rank_length : length rank' ≡ length rank

-- what an answer other than a refusal says
pub record InputPassed (b : Given) (count : ℕ) (by_order rank rank' : List ℕ) : Type 0 where
  pub accepts : outcome {A = Unit {0}} (input_tests b) tt ≡ accepted tt
  pub passed : settling.Passed b
  pub counted : count ≡ length (listed_of b)
  pub in_order : take count by_order ≡ sort_by (runs_before b) (listed_of b)
  pub orders : BothOrders b by_order rank rank'

-- the build hands in these answers and the chunk count on entry, and the areas have these lengths
pub record HandsState (b : Given) (a : Areas) (answers : List ℕ) (n g k on_entry : ℕ) (lengths : AreaLengths) (scratch : ℕ) : Type 0 where
  pub rows : HandsRows b answers n g k
  pub count : b.on_entry ≡ on_entry
  pub areas : area_lengths a ≡ lengths
  pub words : length a.scratch ≡ scratch
