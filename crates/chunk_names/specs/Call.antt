-- The call, refusals included: one call names one chunk.
use Rattle.std.specs.Prelude.{ℕ, List, ◌++◌, ◌≡◌, length, Result}
use Rattle.lists.specs.Area.{placed}
use Rattle.refusal.specs.Outcome.{Outcome, Test, outcome}
use Rattle.refusal.specs.Answers.{outcome_of}
use Rattle.refusal.specs.declared.Refusal.{Refusal}
use Rattle.refusal.specs.Call.{Call, whole}
use Rattle.chunk_names.specs.Given.{Given, chunk_name}
use Rattle.chunk_names.specs.Conditions.{table_tests, chunk_tests}

-- the conditions that the call tests, in its order; room is the length of the name area
unfoldable pub name_tests : Given → ℕ → List Test
unfolding table_tests chunk_tests
name_tests g room = table_tests g.names ++ chunk_tests g.names g.number g.hash room

-- "answers the name's length", or refuses
unfoldable pub name_outcome : Given → ℕ → Outcome ℕ
unfolding name_tests outcome chunk_name
name_outcome g room = outcome (name_tests g room) (length (chunk_name g))

-- the name at the front of the area; "bytes past the name are untouched"
abbrev pub written : Given → List ℕ → List ℕ
written g area = placed 0 (chunk_name g) area

-- the call: its answer, and the bytes of the name area after it
abbrev pub NameCall : Given → Result ℕ Refusal → List ℕ → List ℕ → Type 0
NameCall g answer before after = Call whole (name_outcome g (length before)) (outcome_of answer) before after (λ _. after ≡ written g before)
