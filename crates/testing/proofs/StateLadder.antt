-- The ladder of the state for a build whose pairs were counted.
use Prim.Native.Nat.{ℕ, ◌*◌, ◌≤◌}
use mathlib.Core.List.{List}
use mathlib.Core.Path.{◌≡◌, sym, ap₂, ◌∙◌}
use native.Mathlib.Nat.{le_trans, mul-le-mul}
use Rattle.refusal.specs.Counts.{module_limit, group_limit}
use Rattle.grouping.specs.Given.{Given, Areas}
use Rattle.grouping.specs.Conditions.{pairs, scratch_need, state_tests}
use Rattle.conditions.specs.declared.AreaLengths.{AreaLengths}
use Rattle.sums.specs.HandsIn.{pair_limit}
use Rattle.conditions.specs.Ladder.{HandsAreas}
use Rattle.refusal.specs.Outcome.{first_number}
use Rattle.testing.specs.Tested.{HandsState}

-- no more pairs than answers, so the count fits
pub few_pairs : (count n g : ℕ) → n ≤ module_limit → g ≤ group_limit → count ≤ g * n → (count ≤ pair_limit) × (n ≤ module_limit)
few_pairs count n g modules groups few = (le_trans few (mul-le-mul groups modules), modules)

pub state_of_lem : {b : Given} {a : Areas} {answers : List ℕ} {n g k on_entry : ℕ} {lengths : AreaLengths} {scratch count r : ℕ}
    → HandsState b a answers n g k on_entry lengths scratch → count ≡ pairs b
    → (HandsAreas b a n count lengths scratch → r ≡ first_number (state_tests on_entry n (scratch_need b) a))
    → r ≡ first_number (state_tests b.on_entry b.shared.n (scratch_need b) a)
state_of_lem {b} {a} h counted state =
    state (record { module_count = h.rows.module_count; pair_count = sym counted; areas = h.areas; words = h.words })
    ∙ sym (ap₂ (λ (on_entry n : ℕ). first_number (state_tests on_entry n (scratch_need b) a)) h.count h.rows.module_count)
