-- The call's tests one after another: the first that applies gives the number, and a call that refuses leaves its areas as they are.
use Prim.Native.Nat.{ℕ, ◌≤◌}
use mathlib.Core.Bool.{true, false}
use mathlib.Core.List.{List}
use mathlib.Core.Path.{◌≡◌, refl, sym, ◌∙◌}
use native.Mathlib.Omega.{arith}
use lib.Dec.{leb, ltb}
use lib.ListN.{length}
use Rattle.refusal.specs.Outcome.{refused, accepted, Test, outcome, first_number, ascending, Applies}
use Rattle.std.specs.Prelude.Result.{Ok, Err}
use Rattle.refusal.specs.Answers.{refusal_number}
use Rattle.refusal.specs.declared.Refusal.{Refusal}
use Rattle.refusal.specs.declared.Refusal.TheVariants as refusal
use Rattle.refusal.proofs.Calls.{refuses_call, accepts_call}
use Rattle.refusal.proofs.Ladder.{none_applies, applies, passes, row, left, goes_on, part_refuses}
use Rattle.refusal.proofs.Lowest.{lowest}
use Rattle.flags.specs.Flags.{bad_flags}
use Rattle.records.specs.Bad.{bad_records}
use Rattle.capture.specs.Capture.{Given}
use Rattle.capture.specs.Call.{Areas, bad_counts, bad_lengths, input_tests, area_tests, capture_tests, capture_outcome, Written, CaptureCall}

-- the order of tests ascends, so the first number is the lowest
pub tests_ascend : (g : Given) (a : Areas) → ascending (capture_tests g a) ≡ true
unfolding capture_tests ascending
tests_ascend g a = refl

pub lowest_number : (g : Given) (a : Areas) (n : ℕ) → capture_outcome g a ≡ refused n
    → Applies n (capture_tests g a) × ((m : ℕ) → Applies m (capture_tests g a) → n ≤ m)
unfolding capture_outcome
lowest_number g a n e = lowest tt n (capture_tests g a) (tests_ascend g a) e

-- ---- the conditions on the input

module _ (n d from : ℕ) (flags first dependency next : List ℕ) where
  -- none of them applies
  pub record InputPassed : Type 0 where
    pub counts : bad_counts n d ≡ false
    pub lengths : bad_lengths flags first dependency next n d ≡ false
    pub records : bad_records first dependency next n d ≡ false
    pub flag_bytes : bad_flags flags n ≡ false
    pub start_module : leb n from ≡ false

  abbrev inputs : List Test
  inputs = input_tests n d from flags first dependency next

  pub input_passed : 0 ≡ first_number inputs → InputPassed
  unfolding input_tests
  input_passed e =
      let counts = left 1 _ _ (omega arith) e in
      let lengths = left 2 _ _ (omega arith) counts.1 in
      let records = left 7 _ _ (omega arith) lengths.1 in
      let flag_bytes = left 9 _ _ (omega arith) records.1 in
      record {
        counts = counts.0;
        lengths = lengths.0;
        records = records.0;
        flag_bytes = flag_bytes.0;
        start_module = (left 10 _ _ (omega arith) flag_bytes.1).0;
      }

  no_input_number : InputPassed → outcome {A = Unit {0}} inputs tt ≡ accepted tt
  unfolding input_tests
  no_input_number p = row (passes p.counts (passes p.lengths (passes p.records (passes p.flag_bytes (passes p.start_module none_applies)))))

-- ---- the call

module _ (g : Given) (a : Areas) where
  abbrev inputs_of : List Test
  inputs_of = input_tests g.n g.d g.from g.flags g.first g.dependency g.next

  abbrev Passed : Type 0
  Passed = InputPassed g.n g.d g.from g.flags g.first g.dependency g.next

  after_input : Passed → capture_outcome g a ≡ outcome (area_tests g.n a) tt
  unfolding capture_outcome capture_tests
  after_input p =
      goes_on tt tt tt inputs_of (area_tests g.n a) (no_input_number g.n g.d g.from g.flags g.first g.dependency g.next p)

  pub refuses_input : (e : Refusal) → refusal_number e ≡ first_number inputs_of → CaptureCall g (Err e) a a
  unfolding capture_outcome capture_tests
  refuses_input e told = refuses_call a (sym (part_refuses tt e inputs_of (area_tests g.n a) told))

  pub refuses_12 : Passed → ltb (length a.marks) g.n ≡ true → CaptureCall g (Err refusal.Area) a a
  unfolding area_tests
  refuses_12 p e = refuses_call a (after_input p ∙ row (applies e))

  pub refuses_13 : Passed → ltb (length a.marks) g.n ≡ false → ltb (length a.scratch) g.n ≡ true → CaptureCall g (Err refusal.Scratch) a a
  unfolding area_tests
  refuses_13 p e f = refuses_call a (after_input p ∙ row (passes e (applies f)))

  pub answers : Passed → ltb (length a.marks) g.n ≡ false → ltb (length a.scratch) g.n ≡ false → (b : Areas) → Written g a b
      → CaptureCall g (Ok tt) a b
  unfolding area_tests
  answers p e f b w = accepts_call (after_input p ∙ row (passes e (passes f none_applies))) (λ _. w)
