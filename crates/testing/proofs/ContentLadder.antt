-- The ladder of 6 to 10 from its parts: 6 and 7, 8, and 9 and 10.
use Prim.Native.Nat.{ℕ}
use mathlib.Core.Bool.{true, false}
use mathlib.Core.List.{[], ◌∷◌}
use mathlib.Core.Path.{◌≡◌, refl, sym, ◌∙◌}
use Rattle.refusal.specs.Outcome.{test, first_number}
use Rattle.refusal.specs.Answers.{refusal_number}
use Rattle.refusal.specs.declared.Refusal.{Refusal}
use Rattle.grouping.specs.Given.{Given}
use Rattle.grouping.specs.Conditions.{bad_limit}
use Rattle.conditions.specs.Ladder.{tree_tests, value_tests}
use Rattle.refusal.proofs.Ladder.{none_applies, applies, passes, number, no_number, part_stops, past_number}
use Rattle.testing.specs.Content.{content_tests}

module _ (b : Given) where
  pub tree_stops : (e : Refusal) → refusal_number e ≡ first_number (tree_tests b) → refusal_number e ≡ first_number (content_tests b)
  unfolding content_tests
  tree_stops e told = part_stops e (tree_tests b) (test 8 (bad_limit b) ∷ value_tests b) told

  after_tree : (k : ℕ) → 0 ≡ first_number (tree_tests b) → k ≡ first_number (test 8 (bad_limit b) ∷ value_tests b) → k ≡ first_number (content_tests b)
  unfolding content_tests tree_tests
  after_tree k z e = e ∙ sym (past_number (tree_tests b) (test 8 (bad_limit b) ∷ value_tests b) refl z)

  pub limit_stops : 0 ≡ first_number (tree_tests b) → bad_limit b ≡ true → 8 ≡ first_number (content_tests b)
  limit_stops z e = after_tree 8 z (number (applies e))

  pub values_last : (k : ℕ) → 0 ≡ first_number (tree_tests b) → bad_limit b ≡ false → k ≡ first_number (value_tests b) → k ≡ first_number (content_tests b)
  values_last k z e v =
      after_tree k z (v ∙ sym (past_number (test 8 (bad_limit b) ∷ []) (value_tests b) refl (no_number (passes e none_applies))))
