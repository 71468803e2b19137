-- The call Cut, refusals included.
use Rattle.std.specs.Prelude.{ℕ, ◌+◌, ◌||◌, List, [], ◌∷◌, ltb, Float, length, Result}
use Rattle.std.specs.Float.Ieee.{is_nan}
use Rattle.refusal.specs.Outcome.{Outcome, mapped, Test, test, outcome}
use Rattle.refusal.specs.Answers as answers
use Rattle.refusal.specs.declared.Refusal.{Refusal}
use Rattle.refusal.specs.Counts.{module_limit, bad_length}
use Rattle.whole.specs.Total.{total_exceeds}
use Rattle.ids.specs.Parts.{ids_of}
use Rattle.ids.specs.Offsets.{id_limit, bad_offsets}
use Rattle.cut.specs.Cut.{Chosen, fewer_than_two, none_allowed, cut, cut_of}
use Rattle.cut.specs.declared.Cut.{Cut}
use Rattle.cut.specs.declared.Cut.TheVariants.{FewerThanTwo, NoneAllowed, At}

-- the conditions that Cut tests, in its order
unfoldable pub cut_tests : ℕ → List ℕ → List ℕ → List ℕ → Float → Float → List Test
unfolding bad_offsets total_exceeds is_nan
cut_tests n bytes offsets sizes minimum maximum =
    test 1 (ltb module_limit n)
    ∷ test 2 (bad_length offsets (n + 1) || bad_length sizes n)
    ∷ test 3 (bad_offsets id_limit (length bytes) offsets)
    ∷ test 6 (total_exceeds sizes)
    ∷ test 8 (is_nan minimum || is_nan maximum)
    ∷ []

-- the call: ids and sizes in the order given
unfoldable pub cut_call : ℕ → List ℕ → List ℕ → List ℕ → Float → Float → Outcome Chosen
unfolding cut_tests outcome ids_of cut_of
cut_call n bytes offsets sizes minimum maximum =
    outcome (cut_tests n bytes offsets sizes minimum maximum) (cut_of (ids_of n bytes offsets) sizes minimum maximum)

-- the values of each case of a cut
abbrev pub chosen_of : Cut → Chosen
chosen_of FewerThanTwo = fewer_than_two
chosen_of NoneAllowed = none_allowed
chosen_of (At c) = cut c.index c.left_size c.right_size

-- the number, or the values of the cut
abbrev pub outcome_of : Result Cut Refusal → Outcome Chosen
outcome_of answer = mapped chosen_of (answers.outcome_of answer)
