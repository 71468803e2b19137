-- Chunks tests its conditions in ascending order, so that the number with which it refuses is the lowest of those that apply.
use Prim.Native.Nat.{ℕ, ◌≤◌}
use mathlib.Core.Bool.{true}
use mathlib.Core.Path.{◌≡◌, refl}
use lib.ListN.{length}
use Rattle.refusal.specs.Outcome.{refused, ascending, Applies}
use Rattle.refusal.proofs.Lowest.{lowest}
use Rattle.grouping.specs.Given.{Given, Areas}
use Rattle.grouping.specs.ChunkList.{chunk_list}
use Rattle.grouping.specs.Call.{chunks_tests, chunks_outcome}

pub tests_ascend : (need : Given → ℕ) (b : Given) (a : Areas) → ascending (chunks_tests need b a) ≡ true
unfolding chunks_tests ascending
tests_ascend need b a = refl

pub lowest_number : (need : Given → ℕ) (b : Given) (a : Areas) (n : ℕ) → chunks_outcome need b a ≡ refused n
    → Applies n (chunks_tests need b a) × ((m : ℕ) → Applies m (chunks_tests need b a) → n ≤ m)
unfolding chunks_outcome
lowest_number need b a n = lowest (length (chunk_list b)) n (chunks_tests need b a) (tests_ascend need b a)
