-- A worked example: a build with the areas that are lent to it, and what must come out; and whether it does, by computation.
use Rattle.std.specs.Prelude.{ℕ, ◌+◌, ◌*◌, ◌-◌, Bool, true, false, ◌&&◌, eqb, Float, length, replicate}
use mathlib.Core.List.{List, [], ◌∷◌, ◌++◌, map, foldr}
use Rattle.std.specs.Float.{binary64}
use Rattle.std.specs.Float.Ieee.{to_bits}
use Rattle.lists.specs.Range.{range}
use Rattle.lists.specs.Same.{same_numbers}
use Rattle.refusal.specs.Outcome.{Outcome, refused, accepted}
use Rattle.whole.specs.Double.{to_f64}
use Rattle.grouping.specs.Given.{Given, ModuleAreas, ChunkRecords, Areas}
use Rattle.grouping.specs.Builds.{words_of}
use Rattle.grouping.specs.Written.{written}
use Rattle.grouping.specs.Conditions.{scratch_need}
use Rattle.grouping.specs.Call.{chunks_outcome}

-- Lent areas for n modules with entries to spare, and scratch for p pairs with words to spare: each holds ascending numbers, from x, 2x, 3x and so on.
unfoldable pub lent : ℕ → ℕ → ℕ → ℕ → Areas
unfolding range
lent spare x n p =
    record {
      modules = record { chunk_of = range x (n + spare); next_of = range (2 * x) (n + spare) };
      records =
          record {
            first_of = range (3 * x) (n + spare);
            group_of = range (4 * x) (n + spare);
            name_of = range (5 * x) (n + spare);
            size_of = map to_f64 (range (6 * x) (n + spare));
            bits_of = range (7 * x) (4 * (n + spare));
            mark_of = range (9 * x) (n + spare);
          };
      scratch = range (8 * x) (p * n + 32 * n + spare);
    }

-- one chunk record: its mark, first module plus 1, group, name, size as a whole number, and its entry bits
pub record ChunkRow : Type 0 where
  pub mark : ℕ
  pub first : ℕ
  pub group : ℕ
  pub name : ℕ
  pub size : ℕ
  pub entries : ℕ

abbrev pub marked : ℕ → ℕ → ℕ → ℕ → ℕ → ℕ → ChunkRow
marked mark first group name size entries =
    record { mark = mark; first = first; group = group; name = name; size = size; entries = entries }

-- one within its maximum or without one
abbrev pub chunk : ℕ → ℕ → ℕ → ℕ → ℕ → ChunkRow
chunk = marked 0

-- Those areas after a call whose first new chunk has record `at`: what is written, and what lies before and past it as it was; scratch as zeros.
unfoldable pub filled : ℕ → ℕ → ℕ → ℕ → ℕ → List ℕ → List ℕ → List ChunkRow → Areas
unfolding range
filled at spare x n p chunk_of next_of chunks =
    let end = at + length chunks in
    let past = n + spare - end in
    record {
      modules = record { chunk_of = chunk_of ++ range (x + n) spare; next_of = next_of ++ range (2 * x + n) spare };
      records =
          record {
            first_of = range (3 * x) at ++ (map (λ c. c.first) chunks ++ range (3 * x + end) past);
            group_of = range (4 * x) at ++ (map (λ c. c.group) chunks ++ range (4 * x + end) past);
            name_of = range (5 * x) at ++ (map (λ c. c.name) chunks ++ range (5 * x + end) past);
            size_of = map to_f64 (range (6 * x) at ++ (map (λ c. c.size) chunks ++ range (6 * x + end) past));
            bits_of = range (7 * x) (4 * at) ++ (foldr (λ c rest. words_of c.entries ++ rest) [] chunks ++ range (7 * x + 4 * end) (4 * past));
            mark_of = range (9 * x) at ++ (map (λ c. c.mark) chunks ++ range (9 * x + end) past);
          };
      scratch = replicate (p * n + 32 * n + spare) 0;
    }

-- what is handed in and the record of the first new chunk, the areas before, the answer and the areas after
pub record Example : Type 0 where
  pub given : Given
  pub at : ℕ
  pub before : Areas
  pub answer : Outcome ℕ
  pub after : Areas

-- An accepted build in such areas: P, then chunk number plus 1 and next module plus 1 of each module, and the chunk records, whose count is the
-- answer.
unfoldable pub gives_from : ℕ → ℕ → ℕ → Given → ℕ → List ℕ → List ℕ → List ChunkRow → Example
unfolding lent filled
gives_from at spare x b p chunk_of next_of chunks =
    record {
      given = b;
      at = at;
      before = lent spare x b.shared.n p;
      answer = accepted (length chunks);
      after = filled at spare x b.shared.n p chunk_of next_of chunks;
    }

-- the same with the first record of its area for the first new chunk; and with one entry to spare
abbrev pub gives_in : ℕ → ℕ → Given → ℕ → List ℕ → List ℕ → List ChunkRow → Example
gives_in = gives_from 0

abbrev pub gives : Given → ℕ → List ℕ → List ℕ → List ChunkRow → Example
gives = gives_in 1 1000

-- doubles are compared by their bits
abbrev pub same_doubles : List Float → List Float → Bool
same_doubles l r = same_numbers (map (to_bits binary64) l) (map (to_bits binary64) r)

unfoldable pub same_outcome : Outcome ℕ → Outcome ℕ → Bool
same_outcome (refused m) (refused n) = eqb m n
same_outcome (refused m) (accepted n) = false
same_outcome (accepted m) (refused n) = false
same_outcome (accepted m) (accepted n) = eqb m n

unfoldable pub same_modules : ModuleAreas → ModuleAreas → Bool
unfolding same_numbers
same_modules a b = same_numbers a.chunk_of b.chunk_of && same_numbers a.next_of b.next_of

unfoldable pub same_records : ChunkRecords → ChunkRecords → Bool
unfolding same_numbers to_bits
same_records a b =
    same_numbers a.first_of b.first_of
    && (same_numbers a.group_of b.group_of && (same_numbers a.name_of b.name_of
    && (same_doubles a.size_of b.size_of && (same_numbers a.bits_of b.bits_of && same_numbers a.mark_of b.mark_of))))

unfoldable pub same_areas : Areas → Areas → Bool
unfolding same_modules same_records same_numbers
same_areas a b = same_modules a.modules b.modules && (same_records a.records b.records && same_numbers a.scratch b.scratch)

-- what a call leaves in the areas, by its answer
abbrev pub left_by : Outcome ℕ → ℕ → Given → Areas → Areas
left_by (refused n) at b before = before
left_by (accepted count) at b before = written at b before

unfoldable pub holds : Example → Bool
unfolding same_outcome same_areas chunks_outcome scratch_need written
holds x =
    let answer = chunks_outcome scratch_need x.given x.before in
    same_outcome answer x.answer && same_areas (left_by answer x.at x.given x.before) x.after

unfoldable pub all_hold : List Example → Bool
unfolding holds
all_hold [] = true
all_hold (x ∷ examples) = holds x && all_hold examples
