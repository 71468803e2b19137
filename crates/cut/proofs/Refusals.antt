-- The refusals of Cut. Its conditions stand in ascending order, so that the number answered is the lowest that applies; and what the call
-- answers, step by step, as its tests fall.
use Prim.Native.Nat.{ℕ, ◌+◌, ◌≤◌, ◌<◌}
use mathlib.Core.Bool.{true, false, ◌||◌, or-true}
use mathlib.Core.List.{List, [], ◌∷◌}
use mathlib.Core.Path.{◌≡◌, refl}
use borrow.Author.Tests.{lt-ltb, le-ltb, eq-eqb, ne_eqb}
use lib.Ieee.{Float, is_nan}
use lib.ListN.{length}
use Rattle.refusal.specs.Outcome.{Outcome, refused, accepted, test, ascending, Applies}
use Rattle.refusal.specs.Counts.{module_limit}
use Rattle.refusal.proofs.Ladder.{Row, none_applies, applies, passes, row}
use Rattle.refusal.proofs.Lowest.{lowest}
use Rattle.whole.specs.Total.{total_exceeds}
use Rattle.ids.specs.Parts.{ids_of}
use Rattle.ids.specs.Offsets.{id_limit, bad_offsets}
use Rattle.cut.specs.Cut.{Chosen, cut_of}
use Rattle.cut.specs.Call.{cut_tests, cut_call}

-- the tables to which none of 1, 2 and 3 applies
pub record Passed (n : ℕ) (bytes offsets sizes : List ℕ) : Type 0 where
  pub few : n ≤ module_limit
  pub all_offsets : length offsets ≡ n + 1
  pub all_sizes : length sizes ≡ n
  pub good : bad_offsets id_limit (length bytes) offsets ≡ false

-- nor does 6 or 8
pub record Accepted (n : ℕ) (bytes offsets sizes : List ℕ) (minimum maximum : Float) : Type 0 where
  pub tables : Passed n bytes offsets sizes
  pub small : total_exceeds sizes ≡ false
  pub minimum_given : is_nan minimum ≡ false
  pub maximum_given : is_nan maximum ≡ false

module _ (n : ℕ) (bytes offsets sizes : List ℕ) (minimum maximum : Float) where
  pub tests_ascend : ascending (cut_tests n bytes offsets sizes minimum maximum) ≡ true
  unfolding ascending cut_tests
  tests_ascend = refl

  abbrev call : Outcome Chosen
  call = cut_call n bytes offsets sizes minimum maximum

  -- ---- the ladder of tests

  abbrev answer : Chosen
  answer = cut_of (ids_of n bytes offsets) sizes minimum maximum

  by : {o : Outcome Chosen} → Row answer (cut_tests n bytes offsets sizes minimum maximum) o → call ≡ o
  unfolding cut_call
  by r = row r

  pub too_many : module_limit < n → call ≡ refused 1
  unfolding cut_tests
  too_many h = by (applies (lt-ltb _ _ h))

  pub offsets_missing : n ≤ module_limit → (length offsets ≡ n + 1 → ⊥) → call ≡ refused 2
  unfolding cut_tests
  offsets_missing few h = by (passes (le-ltb _ _ few) (applies (rw (ne_eqb _ _ h))))

  pub sizes_missing : n ≤ module_limit → (length sizes ≡ n → ⊥) → call ≡ refused 2
  unfolding cut_tests
  sizes_missing few h = by (passes (le-ltb _ _ few) (applies (rw (ne_eqb _ _ h, or-true))))

  pub ids_bad : n ≤ module_limit → length offsets ≡ n + 1 → length sizes ≡ n → bad_offsets id_limit (length bytes) offsets ≡ true → call ≡ refused 3
  unfolding cut_tests
  ids_bad few o s h = by (passes (le-ltb _ _ few) (passes (rw (eq-eqb _ _ o, eq-eqb _ _ s)) (applies h)))

  module _ (p : Passed n bytes offsets sizes) where
    past_three : {o : Outcome Chosen} → Row answer (test 6 (total_exceeds sizes) ∷ test 8 (is_nan minimum || is_nan maximum) ∷ []) o → call ≡ o
    unfolding cut_tests
    past_three r =
        by (passes (le-ltb _ _ p.few) (passes (rw (eq-eqb _ _ p.all_offsets, eq-eqb _ _ p.all_sizes)) (passes p.good r)))

    pub total_too_large : total_exceeds sizes ≡ true → call ≡ refused 6
    total_too_large h = past_three (applies h)

    pub minimum_nan : total_exceeds sizes ≡ false → is_nan minimum ≡ true → call ≡ refused 8
    minimum_nan small h = past_three (passes small (applies (rw h)))

    pub maximum_nan : total_exceeds sizes ≡ false → is_nan maximum ≡ true → call ≡ refused 8
    maximum_nan small h = past_three (passes small (applies (rw (h, or-true))))

  -- none of the numbers applies
  pub accepts : Accepted n bytes offsets sizes minimum maximum → call ≡ accepted answer
  accepts p = past_three p.tables (passes p.small (passes (rw (p.minimum_given, p.maximum_given)) none_applies))

  -- a refusal has the lowest number that applies
  pub lowest_number : (k : ℕ) → call ≡ refused k
      → Applies k (cut_tests n bytes offsets sizes minimum maximum) × ((m : ℕ) → Applies m (cut_tests n bytes offsets sizes minimum maximum) → k ≤ m)
  unfolding cut_call
  lowest_number k e = lowest (cut_of (ids_of n bytes offsets) sizes minimum maximum) k (cut_tests n bytes offsets sizes minimum maximum) tests_ascend e
