-- The call Chunks (`split`), refusals included, for a run that needs so much scratch.
use Rattle.std.specs.Prelude.{ℕ, List, ◌++◌, ◌≡◌, length}
use Rattle.refusal.specs.Outcome.{Outcome, Test, outcome}
use Rattle.refusal.specs.Call.{Call, whole}
use Rattle.grouping.specs.Given.{Given, Areas}
use Rattle.grouping.specs.ChunkList.{chunk_list}
use Rattle.grouping.specs.Written.{written}
use Rattle.grouping.specs.Conditions.{input_tests, state_tests}

-- the conditions that Chunks tests: all, in their order
unfoldable pub chunks_tests : (Given → ℕ) → Given → Areas → List Test
unfolding input_tests state_tests
chunks_tests need b a = input_tests b ++ state_tests b.on_entry b.shared.n (need b) a

-- "The answer is the count of new chunks."
unfoldable pub chunks_outcome : (Given → ℕ) → Given → Areas → Outcome ℕ
unfolding chunks_tests outcome chunk_list
chunks_outcome need b a = outcome (chunks_tests need b a) (length (chunk_list b))

-- The call: what is handed in, the answer, and the content of the lent areas before and after it. From it alone follow the answer and the
-- final content of everything lent. "the first new chunk has the first record of its area"
abbrev pub ChunksCall : (Given → ℕ) → Given → Outcome ℕ → Areas → Areas → Type 0
ChunksCall need b answer before after = Call whole (chunks_outcome need b before) answer before after (λ _. after ≡ written 0 b before)
