-- The conditions of the input in the parts in which code tests them, and what the first part leaves.
use mathlib.Core.Bool.{false}
use mathlib.Core.List.{◌∷◌, ◌++◌}
use mathlib.Core.Path.{◌≡◌, refl}
use native.Mathlib.Omega.{arith}
use Rattle.refusal.specs.Outcome.{test, first_number}
use Rattle.refusal.proofs.Ladder.{left}
use Rattle.grouping.specs.Given.{Given}
use Rattle.grouping.specs.Conditions.{count_above, bad_table, bad_id, shared_id, shared_order, bad_limit, input_tests}
use Rattle.conditions.specs.Ladder.{shape_tests, tree_tests, value_tests}

module _ (b : Given) where
  pub input_parts :
      input_tests b
      ≡ shape_tests b ++ (test 4 (shared_id b) ∷ test 5 (shared_order b) ∷ (tree_tests b ++ (test 8 (bad_limit b) ∷ value_tests b)))
  unfolding input_tests shape_tests tree_tests value_tests
  input_parts = refl

  pub shape_left : 0 ≡ first_number (shape_tests b) → (count_above b ≡ false) × (bad_table b ≡ false) × (bad_id b ≡ false)
  unfolding shape_tests
  shape_left e =
      let p = left 1 (count_above b) _ (omega arith) e in
      let q = left 2 (bad_table b) _ (omega arith) p.1 in
      (p.0, q.0, (left 3 (bad_id b) _ (omega arith) q.1).0)
