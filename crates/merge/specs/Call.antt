-- The call Merge, refusals included.
use Rattle.std.specs.Prelude.{ℕ, ◌*◌, ◌≤◌, ◌||◌, List, [], ◌∷◌, ◌++◌, ◌≡◌, ltb, Float, length, drop, Result}
use Rattle.std.specs.Float.Ieee.{is_nan}
use Rattle.refusal.specs.Outcome.{Outcome, Test, test, outcome}
use Rattle.refusal.specs.Answers.{outcome_of}
use Rattle.refusal.specs.declared.Refusal.{Refusal}
use Rattle.refusal.specs.Call.{Call, whole}
use Rattle.refusal.specs.Counts.{module_limit, entry_limit, bad_length}
use Rattle.lists.specs.Sum.{sum}
use Rattle.whole.specs.Total.{total_limit, total_exceeds}
use Rattle.bitset.specs.Entries.{any_beyond}
use Rattle.merge.specs.Tables.{merge_of, final_sizes, final_bits}

-- What a merge is handed: the counts k and E, the sizes, the entry bits (four words a subgroup) and the threshold.
pub record Given : Type 0 where
  pub k : ℕ
  pub entries : ℕ
  pub sizes : List ℕ
  pub bits : List ℕ
  pub threshold : Float

-- the lent areas: final numbers, sizes, and bits (four words an entry)
pub record Areas : Type 0 where
  pub numbers : List ℕ
  pub sizes : List ℕ
  pub bits : List ℕ

-- the conditions that Merge tests, in its order
unfoldable pub merge_tests : Given → Areas → List Test
unfolding total_exceeds is_nan any_beyond
merge_tests g a =
    test 1 (ltb module_limit g.k || ltb entry_limit g.entries)
    ∷ test 2 (bad_length g.sizes g.k || bad_length g.bits (4 * g.k))
    ∷ test 6 (total_exceeds g.sizes)
    ∷ test 8 (is_nan g.threshold)
    ∷ test 9 (any_beyond g.entries g.bits g.k)
    ∷ test 12 (ltb (length a.numbers) g.k || (ltb (length a.sizes) g.k || ltb (length a.bits) (4 * g.k)))
    ∷ []

-- refused or done; document 01 gives no value for a merge that is done, so the answer carries none
unfoldable pub merge_outcome : Given → Areas → Outcome Unit
unfolding merge_tests outcome
merge_outcome g a = outcome (merge_tests g a) tt

-- what an accepted merge leaves; entries past k are as they were
unfoldable pub written : Given → Areas → Areas
unfolding merge_of final_sizes final_bits
written g before =
    let m = merge_of g.k g.sizes g.bits g.threshold in
    record {
      numbers = m.finals ++ drop g.k before.numbers;
      sizes = final_sizes g.k m ++ drop g.k before.sizes;
      bits = final_bits g.k m ++ drop (4 * g.k) before.bits;
    }

-- what the merge of accepted tables asks: counts, lengths, a total and areas that the tests let pass
pub record Ready (k : ℕ) (sizes bits : List ℕ) (areas : Areas) : Type 0 where
  pub count : k ≤ module_limit
  pub sizes_fit : length sizes ≡ k
  pub bits_fit : length bits ≡ 4 * k
  pub exact : sum sizes ≤ total_limit
  pub numbers_room : k ≤ length areas.numbers
  pub sizes_room : k ≤ length areas.sizes
  pub bits_room : 4 * k ≤ length areas.bits

-- the call: its answer, and the content of the lent areas after it
abbrev pub MergeCall : Given → Result Unit Refusal → Areas → Areas → Type 0
MergeCall g answer before after = Call whole (merge_outcome g before) (outcome_of answer) before after (λ _. after ≡ written g before)
