-- The call Capture, refusals included.
use Rattle.std.specs.Prelude.{ℕ, ◌+◌, Bool, ◌||◌, List, [], ◌∷◌, ◌++◌, ◌≡◌, ltb, leb, length, drop, replicate, Result}
use Rattle.refusal.specs.Outcome.{Outcome, Test, test, outcome}
use Rattle.refusal.specs.Answers.{outcome_of}
use Rattle.refusal.specs.declared.Refusal.{Refusal}
use Rattle.refusal.specs.Call.{Call, whole}
use Rattle.refusal.specs.Counts.{module_limit, record_limit, bad_length}
use Rattle.flags.specs.Flags.{bad_flags}
use Rattle.records.specs.Bad.{bad_records}
use Rattle.walk.specs.Reached.{Marks}
use Rattle.capture.specs.Capture.{Given, Captured}

-- the lent areas: one byte per module, and scratch words
pub record Areas : Type 0 where
  pub marks : List ℕ
  pub scratch : List ℕ

-- "a count above its limit": N or D
abbrev pub bad_counts : ℕ → ℕ → Bool
bad_counts n d = ltb module_limit n || ltb record_limit d

-- "a table's length not the one its counts imply"; record 0 is never read, so the records' tables hold D+1 numbers
abbrev pub bad_lengths : List ℕ → List ℕ → List ℕ → List ℕ → ℕ → ℕ → Bool
bad_lengths flags first dependency next n d = bad_length flags n || (bad_length first n || (bad_length dependency (d + 1) || bad_length next (d + 1)))

-- the conditions on what is handed in, in the call's order
unfoldable pub input_tests : ℕ → ℕ → ℕ → List ℕ → List ℕ → List ℕ → List ℕ → List Test
unfolding bad_records bad_flags
input_tests n d from flags first dependency next =
    test 1 (bad_counts n d)
    ∷ test 2 (bad_lengths flags first dependency next n d)
    ∷ test 7 (bad_records first dependency next n d)
    ∷ test 9 (bad_flags flags n)
    ∷ test 10 (leb n from)
    ∷ []

-- the conditions on the lent areas
unfoldable pub area_tests : ℕ → Areas → List Test
area_tests n a = test 12 (ltb (length a.marks) n) ∷ test 13 (ltb (length a.scratch) n) ∷ []

-- the conditions that Capture tests, in its order
unfoldable pub capture_tests : Given → Areas → List Test
unfolding input_tests area_tests
capture_tests g a = input_tests g.n g.d g.from g.flags g.first g.dependency g.next ++ area_tests g.n a

-- refused or done; document 01 gives no value for a capture that is done, so the answer carries none
unfoldable pub capture_outcome : Given → Areas → Outcome Unit
unfolding capture_tests outcome
capture_outcome g a = outcome (capture_tests g a) tt

-- what an accepted capture leaves: the marks of the captured modules, what lies past N as it was, and all of scratch as zeros
pub record Written (g : Given) (before after : Areas) : Type 0 where
  pub marked : Marks (Captured g) g.n after.marks
  pub same_length : length after.marks ≡ length before.marks
  pub past : drop g.n after.marks ≡ drop g.n before.marks
  pub cleared : after.scratch ≡ replicate (length before.scratch) 0

-- the call: its answer, and the content of the lent areas after it
abbrev pub CaptureCall : Given → Result Unit Refusal → Areas → Areas → Type 0
CaptureCall g answer before after = Call whole (capture_outcome g before) (outcome_of answer) before after (λ _. Written g before after)
