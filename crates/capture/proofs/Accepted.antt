-- What the tests leave of an accepted call: tables of the right lengths that the walk can use, and what the lent part of the marks says of the whole.
use Prim.Native.Nat.{ℕ, ◌+◌, ◌-◌, ◌≤◌, ◌<◌}
use mathlib.Core.Bool.{false, ◌||◌}
use mathlib.Core.List.{List, ◌++◌}
use mathlib.Core.Logic.{⊎_elim, inl, inr}
use mathlib.Core.Path.{◌≡◌, sym, ap, ◌∙◌, subst₂}
use native.Mathlib.Omega.{arith}
use borrow.Author.Tests.{ltb-false}
use lib.Dec.{ltb}
use lib.ListN.{length, take, drop, replicate, get_or-append}
use lib.Seq.{length-take-le, length_front, drop_at}
use Rattle.lists.proofs.Below.{neither}
use Rattle.refusal.specs.Counts.{module_limit, record_limit, bad_length}
use Rattle.refusal.proofs.Lengths.{right_length, first_length}
use Rattle.records.specs.Bad.{RecordTables, bad_records}
use Rattle.walk.specs.Reached.{Marks}
use Rattle.capture.specs.Capture.{Given, Captured}
use Rattle.capture.specs.Start.{StartReady}
use Rattle.capture.specs.Call.{Areas, bad_counts, bad_lengths, Written}

-- marks of a table's front are marks of the whole table
marks_front : {P : ℕ → Type 0} {n : ℕ} (part rest : List ℕ) → length part ≡ n → Marks P n part → Marks P n (part ++ rest)
marks_front part rest e x =
    record {
      each = λ m h.
          let q = get_or-append part rest 0 m (rw e h) in
          ⊎_elim (λ p. inl (q ∙ p.0, p.1)) (λ p. inr (q ∙ p.0, p.1)) (x.each m h);
    }

modules_within : (n d : ℕ) → bad_counts n d ≡ false → n ≤ module_limit
modules_within n d e = ltb-false module_limit n (neither (ltb module_limit n) (ltb record_limit d) e).0

pub records_within : (n d : ℕ) → bad_counts n d ≡ false → d ≤ record_limit
records_within n d e = ltb-false record_limit d (neither (ltb module_limit n) (ltb record_limit d) e).1

module _ (flags first dependency next : List ℕ) (n d : ℕ) (e : bad_lengths flags first dependency next n d ≡ false) where
  others : (length flags ≡ n) × ((bad_length first n || (bad_length dependency (d + 1) || bad_length next (d + 1))) ≡ false)
  others = first_length (length flags) n _ e

  pub flag_lengths : length flags ≡ n
  flag_lengths = others.0

  pub record_tables : bad_counts n d ≡ false → RecordTables first dependency next n d
  record_tables counts =
      let t = first_length (length first) n _ others.1 in
      let u = first_length (length dependency) (d + 1) _ t.1 in
      record {
        few_modules = modules_within n d counts;
        few = records_within n d counts;
        firsts = t.0;
        modules = u.0;
        nexts = right_length (length next) (d + 1) u.1;
      }

module _ (g : Given) where
  -- the same, with other counts
  abbrev counted : ℕ → ℕ → Given
  counted n d = record { n = n; d = d; recursive = g.recursive; from = g.from; flags = g.flags; first = g.first; dependency = g.dependency; next = g.next }

  module _ (counts : bad_counts g.n g.d ≡ false) (e : bad_lengths g.flags g.first g.dependency g.next g.n g.d ≡ false) where
    flag_count : length g.flags ≡ g.n
    flag_count = flag_lengths g.flags g.first g.dependency g.next g.n g.d e

    tables : RecordTables g.first g.dependency g.next g.n g.d
    tables = record_tables g.flags g.first g.dependency g.next g.n g.d e counts

    last_record : g.d ≡ length g.next - 1
    last_record = omega (arith, tables.nexts)

    -- the capture from one module reads the counts off the tables
    pub start_ready : bad_records g.first g.dependency g.next g.n g.d ≡ false → g.from < g.n → (marks queue : List ℕ) → length marks ≡ g.n → g.n ≤ length queue → StartReady g.flags g.first g.dependency g.next (length g.flags) (length g.next - 1) g.from marks queue
    start_ready good h marks queue m q =
        subst₂ (λ (n d : ℕ). StartReady g.flags g.first g.dependency g.next n d g.from marks queue) (sym flag_count) last_record
        (record { tables = record { flag_bytes = flag_count; records = tables; good = good }; start_in = h; mark_bytes = m; room = q })

    -- what the call leaves, from what the capture leaves of the lent part of the marks and of scratch
    pub written : (a : Areas) → g.n ≤ length a.marks → (part scratch cleared : List ℕ) → length part ≡ length (take g.n a.marks) → Marks (Captured (counted (length g.flags) (length g.next - 1))) (length g.flags) part → length scratch ≡ length a.scratch → cleared ≡ replicate (length scratch) 0 → Written g a (record { marks = part ++ drop g.n a.marks; scratch = cleared })
    written a h part scratch cleared same marked kept zeros =
        let n-part : length part ≡ g.n = same ∙ length-take-le g.n a.marks h in
        let captured : Marks (Captured g) g.n part = subst₂ (λ (n d : ℕ). Marks (Captured (counted n d)) n part) flag_count (sym last_record) marked in
        record {
          marked = marks_front part (drop g.n a.marks) n-part captured;
          same_length = length_front a.marks part g.n same;
          past = drop_at part (drop g.n a.marks) g.n n-part;
          cleared = zeros ∙ ap (λ (k : ℕ). replicate k 0) kept;
        }
