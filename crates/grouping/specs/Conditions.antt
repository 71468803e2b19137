-- The thirteen conditions, one definition each: those of the input, 1 to 10, and those of the state, 11 to 13. A condition may be nonsense
-- on tables of a wrong length, since 2 is lower.
use Rattle.std.specs.Prelude.{ℕ, ◌+◌, ◌*◌, Bool, ◌&&◌, ◌||◌, List, [], ◌∷◌, map, ltb, leb, eqb, length, get_or}
use Rattle.lists.specs.Below.{any_below, count_below}
use Rattle.lists.specs.Keep.{keep}
use Rattle.lists.specs.Range.{range}
use Rattle.lists.specs.Same.{same_numbers}
use Rattle.lists.specs.Sum.{sum}
use Rattle.refusal.specs.Outcome.{Test, test}
use Rattle.refusal.specs.Counts.{module_limit, group_limit, entry_limit, name_limit, record_limit, bad_length}
use Rattle.whole.specs.Total.{total_exceeds}
use Rattle.bitset.specs.Entries.{any_beyond}
use Rattle.ids.specs.Parts.{id_at}
use Rattle.ids.specs.Offsets.{id_limit, bad_offsets}
use Rattle.flags.specs.Flags.{listed, bad_flags}
use Rattle.records.specs.Bad.{bad_records}
use Rattle.options.specs.Nan.{nan_options, nan_group}
use Rattle.options.specs.Tables.{GroupTables, group_at}
use Rattle.grouping.specs.Given.{Given, ModuleAreas, ChunkRecords, Areas, is_listed, answer_of}

-- 1: "a count above its limit"
unfoldable pub count_above : Given → Bool
count_above b =
    let s = b.shared in
    ltb module_limit s.n || (ltb group_limit b.variant.g || (ltb entry_limit s.e || (ltb name_limit s.k || ltb record_limit s.d)))

-- 2: "a table's length not the one its counts imply"
unfoldable pub bad_module_table : Given → Bool
bad_module_table b =
    let s = b.shared in
    bad_length b.variant.flags s.n
    || (bad_length s.sizes s.n || (bad_length s.orders s.n || (bad_length s.shares s.n
    || (bad_length s.tags s.n || bad_length s.bits (4 * s.n)))))

unfoldable pub bad_record_table : Given → Bool
bad_record_table b =
    let s = b.shared in
    bad_length s.offsets (s.n + 1) || (bad_length s.first s.n || (bad_length s.dependency (s.d + 1) || bad_length s.next (s.d + 1)))

unfoldable pub bad_group_table : GroupTables → ℕ → Bool
bad_group_table t g =
    bad_length t.given g
    || (bad_length t.min_size g || (bad_length t.max_size g || (bad_length t.min_module_size g || (bad_length t.max_module_size g
    || (bad_length t.min_share_count g || (bad_length t.tags g || (bad_length t.priority g || bad_length t.threshold g)))))))

unfoldable pub bad_table : Given → Bool
unfolding bad_module_table bad_record_table bad_group_table
bad_table b =
    let v = b.variant in
    bad_module_table b || (bad_record_table b || (bad_group_table v.groups v.g || bad_length v.answers (v.g * b.shared.n)))

-- 3: "an id offset falls or passes the end, or an id exceeds 1,024 bytes"
unfoldable pub bad_id : Given → Bool
unfolding bad_offsets
bad_id b = bad_offsets id_limit (length b.shared.bytes) b.shared.offsets

-- two different modules below n that are both normal and included, of which a test holds
unfoldable pub two_listed : Given → (ℕ → ℕ → Bool) → Bool
unfolding any_below listed
two_listed b p = any_below (λ m. any_below (λ l. is_listed b l && (is_listed b m && p l m)) m) b.shared.n

-- 4: "two normal included modules share a stable id"
unfoldable pub shared_id : Given → Bool
unfolding two_listed same_numbers id_at
shared_id b =
    let id = id_at b.shared.bytes b.shared.offsets in
    two_listed b (λ l m. same_numbers (id l) (id m))

-- 5: "two normal included modules share an execution order"
unfoldable pub shared_order : Given → Bool
unfolding two_listed
shared_order b = two_listed b (λ l m. eqb (get_or b.shared.orders l 0) (get_or b.shared.orders m 0))

-- 6: "sizes (of normal included modules …) add to more than 2^53"
unfoldable pub bad_total : Given → Bool
unfolding total_exceeds keep range listed
bad_total b = total_exceeds (map (λ m. get_or b.shared.sizes m 0) (keep (is_listed b) (range 0 b.shared.n)))

-- 7: dependency records
unfoldable pub bad_dependency : Given → Bool
unfolding bad_records
bad_dependency b = bad_records b.shared.first b.shared.dependency b.shared.next b.shared.n b.shared.d

-- 8: "a given limit or threshold is NaN", used or not
unfoldable pub bad_limit : Given → Bool
unfolding nan_options nan_group group_at any_below
bad_limit b = nan_options b.shared.options || any_below (λ g. nan_group (group_at b.variant.groups g)) b.variant.g

-- 9: "a flag byte above 7, or an entry bit at or above E"
unfoldable pub bad_bit : Given → Bool
unfolding bad_flags any_beyond
bad_bit b = bad_flags b.variant.flags b.shared.n || any_beyond b.shared.e b.shared.bits b.shared.n

-- 10: "an answer of K+2 or more"
unfoldable pub bad_answer : Given → Bool
unfolding any_below
bad_answer b = any_below (λ i. leb (b.shared.k + 2) (get_or b.variant.answers i 0)) (b.variant.g * b.shared.n)

-- 11: "chunk count on entry above 65,535"
unfoldable pub bad_entry_count : ℕ → Bool
bad_entry_count on_entry = ltb 65535 on_entry

-- 12: "an output area shorter than N … entries": the areas per module, and the chunk records
unfoldable pub short_module_area : ℕ → ModuleAreas → Bool
short_module_area n a = ltb (length a.chunk_of) n || ltb (length a.next_of) n

unfoldable pub short_record_area : ℕ → ChunkRecords → Bool
short_record_area n a =
    ltb (length a.first_of) n
    || (ltb (length a.group_of) n || (ltb (length a.name_of) n || (ltb (length a.size_of) n
    || (ltb (length a.bits_of) (4 * n) || ltb (length a.mark_of) n))))

unfoldable pub bad_area : ℕ → Areas → Bool
unfolding short_module_area short_record_area
bad_area n a = short_module_area n a.modules || short_record_area n a.records

-- "P being the distinct (group, name) pairs among answers of 2 or more"
unfoldable pub pairs : Given → ℕ
unfolding sum count_below any_below range
pairs b =
    sum (map (λ g. count_below (λ name. any_below (λ m. eqb (answer_of b g m) (2 + name)) b.shared.n) b.shared.k) (range 0 b.variant.g))

-- "P×N + 32×N u32 words"
unfoldable pub scratch_need : Given → ℕ
unfolding pairs
scratch_need b = pairs b * b.shared.n + 32 * b.shared.n

-- 13: "scratch shorter than" what the run needs
unfoldable pub bad_scratch : ℕ → List ℕ → Bool
bad_scratch need scratch = ltb (length scratch) need

-- the conditions of the input, in their order
unfoldable pub input_tests : Given → List Test
unfolding count_above bad_table bad_id shared_id shared_order bad_total bad_dependency bad_limit bad_bit bad_answer
input_tests b =
    test 1 (count_above b)
    ∷ test 2 (bad_table b)
    ∷ test 3 (bad_id b)
    ∷ test 4 (shared_id b)
    ∷ test 5 (shared_order b)
    ∷ test 6 (bad_total b)
    ∷ test 7 (bad_dependency b)
    ∷ test 8 (bad_limit b)
    ∷ test 9 (bad_bit b)
    ∷ test 10 (bad_answer b)
    ∷ []

-- the conditions of the state, in their order: the chunk count on entry, areas for n modules, and scratch of so many words
unfoldable pub state_tests : ℕ → ℕ → ℕ → Areas → List Test
unfolding bad_entry_count bad_area bad_scratch
state_tests on_entry n need a = test 11 (bad_entry_count on_entry) ∷ test 12 (bad_area n a) ∷ test 13 (bad_scratch need a.scratch) ∷ []
