-- Both ladders joined: the outcome of a call of Chunks from the answer to the conditions of the input and the number of those of the state.
use Prim.Native.Nat.{ℕ}
use mathlib.Core.List.{List, []}
use mathlib.Core.Path.{◌≡◌, refl, sym, ◌∙◌}
use lib.ListN.{length}
use Rattle.refusal.specs.Outcome.{Test, refused, accepted, outcome, first_number}
use Rattle.refusal.proofs.Lowest.{accepts}
use Rattle.grouping.specs.Given.{Given, Areas}
use Rattle.grouping.specs.Conditions.{input_tests, scratch_need, state_tests}
use Rattle.grouping.specs.Call.{chunks_tests}
use Rattle.places.specs.Ordered.{listed_of}
use Rattle.std.specs.Prelude.Result.{Ok, Err}
use Rattle.refusal.specs.Answers.{refusal_number}
use Rattle.refusal.specs.declared.Refusal.{Refusal}
use Rattle.testing.specs.Tested.{InputTested, InputPassed}
use Rattle.refusal.proofs.Ladder.{part_refuses, past, still_refused, goes_on}
use Rattle.testing.proofs.InputLadder.{passed_all}

-- the conditions of the state for a build and areas
abbrev state_of : Given → Areas → List Test
state_of b a = state_tests b.on_entry b.shared.n (scratch_need b) a

module _ {b : Given} {by_order by-order' rank rank' : List ℕ} where
  pub input_passed : {count : ℕ} → InputTested b (Ok count) by_order by-order' rank rank' → InputPassed b count by-order' rank rank'
  unfolding input_tests outcome
  input_passed {count} t =
      let passed = passed_all b (length (listed_of b)) count (sym t.answer) in
      let orders = t.ordered passed in
      let same = (accepts (length (listed_of b)) count (input_tests b) (sym t.answer)).0 in
      record {
        accepts = goes_on (length (listed_of b)) tt count (input_tests b) [] (sym t.answer);
        passed = passed;
        counted = same;
        in_order = rw same orders.in_order;
        orders = orders;
      }

  module _ (a : Areas) (answer : ℕ) where
    -- a condition of the input applies
    pub refused_input : {e : Refusal} → InputTested b (Err e) by_order by-order' rank rank'
        → outcome (chunks_tests scratch_need b a) answer ≡ refused (refusal_number e)
    unfolding chunks_tests
    refused_input {e} t = still_refused (length (listed_of b)) answer (refusal_number e) (input_tests b) _ (sym t.answer)

    -- none does, and the state decides
    module _ {count : ℕ} (t : InputTested b (Ok count) by_order by-order' rank rank') where
      state_decides : outcome (chunks_tests scratch_need b a) answer ≡ outcome (state_of b a) answer
      unfolding chunks_tests
      state_decides = goes_on (length (listed_of b)) answer count (input_tests b) _ (sym t.answer)

      pub refused_state : (e : Refusal) → refusal_number e ≡ first_number (state_of b a)
          → outcome (chunks_tests scratch_need b a) answer ≡ refused (refusal_number e)
      unfolding state_tests
      refused_state e told = state_decides ∙ sym (part_refuses answer e (state_of b a) [] told)

      pub accepted_both : 0 ≡ first_number (state_of b a)
          → outcome (chunks_tests scratch_need b a) answer ≡ accepted answer
      unfolding state_tests outcome
      accepted_both e = state_decides ∙ past answer (state_of b a) [] refl e
