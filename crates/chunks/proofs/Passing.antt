-- A build that passed the tests is ready for its run, and what its call of Chunks answers and leaves.
use Prim.Native.Nat.{ℕ, zero, suc, ◌≤◌, ◌<◌}
use mathlib.Core.List.{List}
use mathlib.Core.Path.{◌≡◌, refl, sym, ap, ◌∙◌}
use native.Mathlib.Omega.{arith}
use lib.ListN.{length, take, get_or, replicate, length-replicate}
use Rattle.lists.specs.Range.{range}
use Rattle.lists.proofs.KeepLength.{keep_le}
use Rattle.lists.proofs.Range.{length_range}
use Rattle.refusal.specs.Outcome.{refused, accepted, outcome, first_number}
use Rattle.refusal.proofs.Calls.{refuses_call, accepts_call}
use Rattle.grouping.specs.Given.{Given, Areas, is_listed}
use Rattle.grouping.specs.ChunkList.{chunk_list}
use Rattle.grouping.specs.Conditions.{scratch_need, state_tests}
use Rattle.grouping.specs.Call.{chunks_tests, chunks_outcome, ChunksCall}
use Rattle.sums.specs.Names.{AnswersWithin}
use Rattle.conditions.proofs.CountsLeft.{counts_passed}
use Rattle.conditions.proofs.TablesLeft.{answers_within}
use Rattle.places.specs.Ordered.{listed_of}
use Rattle.std.specs.Prelude.Result.{Ok, Err}
use Rattle.refusal.specs.Answers.{refusal_number}
use Rattle.refusal.specs.declared.Refusal.{Refusal}
use Rattle.testing.specs.Tested.{InputTested}
use Rattle.testing.proofs.TestsJoined.{refused_input, refused_state, accepted_both, input_passed}
use Rattle.testing.proofs.RanksLeft.{ranks_of}
use Rattle.run.specs.Ran.{Ran}
use Rattle.tested_run.specs.RunInput.{input_of, InputFits, Runnable}
use Rattle.chunks.proofs.StateLeft.{small_count, room}

-- what both tables hold before the tests
abbrev pub zeros : List ℕ
zeros = replicate 4096 0

low : (n m : ℕ) → get_or {A = ℕ} (replicate n 0) m 0 < 4096
low zero m = omega arith
low (suc n) zero = omega arith
low (suc n) (suc m) = low n m

-- ---- refusals

refuses : (b : Given) (a : Areas) (number : ℕ) → outcome (chunks_tests scratch_need b a) (length (chunk_list b)) ≡ refused number
    → ChunksCall scratch_need b (refused number) a a
unfolding chunks_outcome
refuses b a number e = refuses_call a e

module _ (b : Given) (a : Areas) {by_order rank : List ℕ} where
  -- a condition of the input applies
  pub input_refused : (e : Refusal) → InputTested b (Err e) zeros by_order zeros rank → ChunksCall scratch_need b (refused (refusal_number e)) a a
  input_refused e t = refuses b a (refusal_number e) (refused_input a (length (chunk_list b)) t)

  module _ (count : ℕ) (t : InputTested b (Ok count) zeros by_order zeros rank) where
    -- what the conditions of the state are tested on
    pub passed_answers : AnswersWithin b.variant.answers b.shared.n b.variant.g b.shared.k
    passed_answers = let p = (input_passed t).passed in answers_within b p.counts p.tables p.answers

    -- one of those applies
    pub state_refused : (e : Refusal) → refusal_number e ≡ first_number (state_tests b.on_entry b.shared.n (scratch_need b) a)
        → ChunksCall scratch_need b (refused (refusal_number e)) a a
    state_refused e told = refuses b a (refusal_number e) (refused_state a (length (chunk_list b)) t e told)

    -- ---- an accepted call

    few : b.shared.n ≤ 4096
    few = (counts_passed b (input_passed t).passed.counts).modules

    pub modules_in : b.shared.n ≤ length rank
    modules_in = omega (arith, few, t.rank_length, length-replicate {A = ℕ} 4096 0)

    pub count_in : count ≤ length by_order
    unfolding listed_of
    count_in =
        omega (
          arith,
          few,
          t.order_length,
          length-replicate {A = ℕ} 4096 0,
          (input_passed t).counted,
          keep_le (is_listed b) (range 0 b.shared.n),
          length_range 0 b.shared.n,
        )

    pub input_fits : InputFits b (input_of b (take count by_order) (take b.shared.n rank))
    input_fits =
        let p = input_passed t in
        record {
          handed = refl;
          passed = p.passed;
          order = p.in_order;
          ranks = ranks_of b p.passed p.orders modules_in (low 4096);
        }

    -- nor does a condition of the state
    module _ (none : 0 ≡ first_number (state_tests b.on_entry b.shared.n (scratch_need b) a)) where
      pub runnable : Runnable (input_of b (take count by_order) (take b.shared.n rank)) 0 a
      runnable = record { b = b; fits = input_fits; small = small_count b a none; room = room b a none }

      pub answers : (made : ℕ) (after : Areas) → Ran b 0 made a after → ChunksCall scratch_need b (accepted made) a after
      unfolding chunks_outcome
      answers made after ran = accepts_call (accepted_both a (length (chunk_list b)) t none ∙ ap accepted (sym ran.chunks)) (λ _. ran.areas)
