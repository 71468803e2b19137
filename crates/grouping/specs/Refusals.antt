-- The refusals: one sound build in areas without an entry to spare, and changes of it, each with the number that the call then answers, 0 if it is
-- accepted.
use Rattle.std.specs.Prelude.{ℕ, ◌+◌, ◌-◌, ◌^◌, Bool, true, ◌&&◌, List, [], ◌∷◌, ◌++◌, map, eqb}
use Rattle.lists.specs.Range.{range}
use Rattle.refusal.specs.Outcome.{number_of}
use Rattle.grouping.specs.Given.{Given}
use Rattle.grouping.specs.Builds.{row, flagged, group, min_size, max_size, min_module_size, max_module_size, build}
use Rattle.grouping.specs.Conditions.{scratch_need}
use Rattle.grouping.specs.Call.{chunks_outcome}
use Rattle.grouping.specs.Expected.{lent}
use Rattle.grouping.specs.Changes.{
  Handed,
  changed,
  module_count,
  entry_count,
  name_count,
  record_count,
  group_count,
  on_entry,
  sizes,
  orders,
  bits,
  offsets,
  firsts,
  modules,
  nexts,
  flags,
  answers,
  bytes,
  scratch,
  thresholds,
}
use Rattle.grouping.specs.Damages.{Damage, both, count, entry, short, longer, short_doubles, longer_doubles, nan_at, nan_limit}

-- Modules 0 and 1 are eligible, 2 is assigned, and 3 is not included; 3 has the id and the execution order of 0, and a size of 2^53. There are five
-- pairs: in group 0 name 0, name 1 of module 2 alone and name 2 of module 3 alone; in group 1 name 0 of module 0 alone, which doesn't pass the filter,
-- and name 1 twice. K is 3, so that an answer of 4 is the highest; E is 5, and module 1 has entry 4.
unfoldable pub sound : Given
unfolding build row flagged
sound =
    build 5 3 [] 0
    (row "p" 10 2 1 (1 ∷ 2 ∷ [])
    ∷ row "q" 20 0 16 []
    ∷ flagged 7 (row "r" 30 1 2 [])
    ∷ flagged 1 (row "p" (2 ^ 53) 2 4 (0 ∷ []))
    ∷ [])
    (group [] (2 ∷ 1 ∷ 3 ∷ 4 ∷ []) ∷ group (min_size 0 ∷ max_size 100 ∷ min_module_size 15 ∷ max_module_size 25 ∷ []) (2 ∷ 3 ∷ 3 ∷ 0 ∷ []) ∷ [])

unfoldable pub sound_call : Handed
unfolding sound lent
sound_call = record { given = sound; areas = lent 0 1000 4 5 }

-- a change, and the number that the call answers to it
pub record Refusal : Type 0 where
  pub number : ℕ
  pub damage : Damage

abbrev pub answered : ℕ → Damage → Refusal
answered number damage = record { number = number; damage = damage }

-- a change for each of some tables
abbrev pub answered_each : ℕ → (ℕ → Damage) → List ℕ → List Refusal
answered_each number damage tables = map (λ t. answered number (damage t)) tables

-- one change for each number
unfoldable pub thirteen : List Refusal
unfolding changed
thirteen =
    answered 1 (count entry_count 257)
    ∷ answered 2 (short 2)
    ∷ answered 3 (entry offsets 4 5)
    ∷ answered 4 (entry bytes 2 113)
    ∷ answered 5 (entry orders 2 0)
    ∷ answered 6 (entry sizes 2 (2 ^ 53 - 29))
    ∷ answered 7 (entry firsts 3 4)
    ∷ answered 8 (nan_at thresholds 0)
    ∷ answered 9 (entry flags 3 8)
    ∷ answered 10 (entry answers 7 5)
    ∷ answered 11 (count on_entry 65536)
    ∷ answered 12 (short 16)
    ∷ answered 13 (short scratch)
    ∷ []

-- any two of these together: "the lowest that applies is returned, alone"
unfoldable pub pairwise : List Refusal → List Refusal
pairwise [] = []
pairwise (x ∷ l) = map (λ y. answered x.number (both x.damage y.damage)) l ++ pairwise l

-- 1 and 2: each count at its limit, where the tables no longer fit, and above it; each table shorter and longer than its counts imply
unfoldable pub of_counts : List Refusal
unfolding changed range
of_counts =
    answered 2 (count module_count 4096)
    ∷ answered 1 (count module_count 4097)
    ∷ answered 2 (count group_count 64)
    ∷ answered 1 (count group_count 65)
    ∷ answered 0 (count entry_count 256)
    ∷ answered 2 (both (count name_count 65535) (short answers))
    ∷ answered 1 (count name_count 65536)
    ∷ answered 2 (count record_count 65535)
    ∷ answered 1 (count record_count 65536)
    ∷ (answered_each 2 short (range 0 15)
    ++ (answered_each 2 (λ t. longer t 1) (range 0 15) ++ (answered_each 2 short_doubles (range 0 5) ++ answered_each 2 longer_doubles (range 0 5))))

-- 3 to 6
unfoldable pub of_modules : List Refusal
unfolding changed
of_modules =
    -- 3: an offset falls; the last passes the end; the first does; an id of 1,025 bytes, and one of 1,024
    answered 3 (entry offsets 1 3)
    ∷ answered 3 (short bytes)
    ∷ answered 3 (entry offsets 0 5)
    ∷ answered 3 (both (longer bytes 1024) (entry offsets 4 1028))
    ∷ answered 0 (both (longer bytes 1024) (entry offsets 4 1027))
    -- bytes before the first id and past the last, and an empty id
    ∷ answered 0 (entry offsets 0 1)
    ∷ answered 0 (longer bytes 1)
    ∷ answered 0 (entry offsets 2 1)
    -- 4: two empty ids; a module that becomes included or normal and has another's id, the flag byte being read by its bits
    ∷ answered 4 (both (entry offsets 2 1) (entry offsets 3 1))
    ∷ answered 4 (entry flags 3 3)
    ∷ answered 4 (entry flags 3 11)
    ∷ answered 0 (entry flags 3 2)
    -- 5: the same, where the ids differ
    ∷ answered 5 (both (entry flags 3 7) (entry bytes 3 120))
    -- 6: 2^53 in all; a sum that would wrap in 64 bits; and a module that becomes included
    ∷ answered 0 (entry sizes 2 (2 ^ 53 - 30))
    ∷ answered 6 (entry sizes 1 (2 ^ 64 - 1))
    ∷ answered 6 (both (entry flags 3 3) (both (entry bytes 3 120) (entry orders 3 3)))
    ∷ []

-- 7: dependency records
unfoldable pub of_records : List Refusal
unfolding changed
of_records =
    -- a next above D, and a module not below N; also in a record that is on no chain
    answered 7 (entry nexts 2 4)
    ∷ answered 7 (entry modules 1 4)
    ∷ answered 7 (both (entry firsts 3 0) (entry nexts 3 4))
    ∷ answered 7 (both (entry firsts 3 0) (entry modules 3 4))
    -- a circle on a chain, and one that no chain enters
    ∷ answered 7 (entry nexts 2 1)
    ∷ answered 7 (entry nexts 3 3)
    ∷ answered 0 (both (entry firsts 3 0) (entry nexts 3 3))
    -- a chain of D records
    ∷ answered 0 (entry nexts 2 3)
    ∷ []

-- 8 to 10
unfoldable pub of_options : List Refusal
unfolding changed range
of_options =
    -- 8: each global limit; each limit of group 1 and its threshold, though it is not entries-aware; limits that group 0 doesn't have
    answered_each 8 nan_limit (range 0 4)
    ++ (answered_each 8 (λ t. nan_at t 1) (range 0 5)
    ++ (answered_each 0 (λ t. nan_at t 0) (range 0 4)
    -- 9: an entry at E, of a module that isn't included; in the other words; the last of 256
    ++ (answered 9 (entry bits 12 32)
    ∷ answered 9 (count entry_count 4)
    ∷ answered 9 (entry bits 1 1)
    ∷ answered 9 (entry bits 2 1)
    ∷ answered 9 (entry bits 7 (2 ^ 63))
    ∷ answered 0 (both (count entry_count 256) (entry bits 7 (2 ^ 63)))
    ∷ answered 9 (both (count entry_count 255) (entry bits 7 (2 ^ 63)))
    -- 10: the first answer, and a K below
    ∷ answered 10 (entry answers 0 5)
    ∷ answered 10 (count name_count 2)
    ∷ [])))

-- 11 to 13
unfoldable pub of_state : List Refusal
unfolding changed range
of_state =
    answered 0 (count on_entry 65535)
    -- 12: each area one entry short
    ∷ (answered_each 12 short (range 16 7)
    ++ (answered 12 (short_doubles 5)
    -- 13: a pair more; an answer of 1, which is none; and a pair less
    ∷ answered 13 (entry answers 7 4)
    ∷ answered 0 (entry answers 7 1)
    ∷ answered 0 (both (entry answers 3 0) (short scratch))
    ∷ []))

unfoldable pub refusals : List Refusal
unfolding thirteen pairwise of_counts of_modules of_records of_options of_state
refusals =
    answered 0 (λ h. h)
    ∷ (thirteen ++ (pairwise thirteen ++ (of_counts ++ (of_modules ++ (of_records ++ (of_options ++ of_state))))))

-- the number that the call answers to a change
unfoldable pub number_after : Damage → ℕ
unfolding sound_call chunks_outcome scratch_need
number_after damage =
    let h = damage sound_call in
    number_of (chunks_outcome scratch_need h.given h.areas)

unfoldable pub all_answered : List Refusal → Bool
unfolding number_after
all_answered [] = true
all_answered (r ∷ refusals) = eqb (number_after r.damage) r.number && all_answered refusals
