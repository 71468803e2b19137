-- A build whose records are laid anew passes the tests as it did and has the same chunk list: each module has the same dependencies, and nothing
-- else changes. This is the renumbering rule with every number as it is.
use Prim.Native.Nat.{ℕ, ◌+◌}
use mathlib.Core.Bool.{false}
use mathlib.Core.List.{List}
use mathlib.Core.Path.{◌≡◌, refl, sym, ap, ◌∙◌}
use borrow.Author.Tests.{le-ltb, eq-eqb}
use lib.Dec.{ltb}
use lib.ListN.{length}
use Rattle.lists.proofs.Below.{neither}
use Rattle.refusal.specs.Counts.{module_limit, group_limit, entry_limit, name_limit, record_limit, bad_length}
use Rattle.contiguous.specs.Laid.{SameDependencies}
use Rattle.grouping.specs.Given.{Given, Areas}
use Rattle.grouping.specs.Settings.{settings_of}
use Rattle.grouping.specs.Tree.{places_of}
use Rattle.grouping.specs.Conditions.{
  count_above,
  bad_module_table,
  bad_record_table,
  bad_table,
  bad_id,
  two_listed,
  shared_id,
  shared_order,
  bad_total,
  bad_dependency,
  bad_limit,
  bad_bit,
  bad_answer,
}
use Rattle.grouping.specs.ChunkList.{chunk_list}
use Rattle.grouping.specs.Written.{members_of, written_modules, written_records, written}
use Rattle.grouping.specs.Renumbering.{Renumbering, Alike}
use Rattle.grouping_laws.proofs.Accepted.{Sound, tests_sound}
use Rattle.grouping_laws.proofs.TreeEqual.{chunks_same}
use Rattle.settling.specs.Modules.{Passed}
use Rattle.places.specs.Ordered.{listed_of}
use Rattle.run.specs.Fits.{RunTables, RunFits}
use Rattle.run.specs.Ran.{Ran}
use Rattle.laid_run.specs.Relaid.{with_records, tables_with}

module _ (b : Given) (first dependency next : List ℕ) (d : ℕ) (passed : Passed b)
    (same : SameDependencies b.shared.first b.shared.dependency b.shared.next b.shared.n b.shared.d first dependency next d) where
  counts : count_above (with_records b first dependency next d) ≡ false
  unfolding count_above
  counts =
      let s = b.shared in
      let one = neither (ltb module_limit s.n) _ passed.counts in
      let two = neither (ltb group_limit b.variant.g) _ one.1 in
      let three = neither (ltb entry_limit s.e) _ two.1 in
      let four = neither (ltb name_limit s.k) _ three.1 in
      simp (one.0, two.0, three.0, four.0) (le-ltb record_limit d same.tables.few)

  tables : bad_table (with_records b first dependency next d) ≡ false
  unfolding bad_table bad_module_table bad_record_table
  tables =
      let s = b.shared in
      let one = neither (bad_module_table b) _ passed.tables in
      let two = neither (bad_record_table b) _ one.1 in
      let offsets = neither (bad_length s.offsets (s.n + 1)) _ two.0 in
      rw one.0
      (rw (offsets.0, right first s.n same.tables.firsts, right dependency (d + 1) same.tables.modules, right next (d + 1) same.tables.nexts)
      two.1)
    where
      right : (l : List ℕ) (k : ℕ) → length l ≡ k → bad_length l k ≡ false
      right l k e = rw (eq-eqb (length l) k e)

  pub still_passed : Passed (with_records b first dependency next d)
  unfolding bad_id shared_id shared_order two_listed bad_total bad_dependency bad_limit bad_bit bad_answer
  still_passed =
      record {
        counts = counts;
        tables = tables;
        ids = passed.ids;
        ids_apart = passed.ids_apart;
        orders_apart = passed.orders_apart;
        total = passed.total;
        records = same.good;
        limits = passed.limits;
        bits = passed.bits;
        answers = passed.answers;
      }

  as_it_is : Renumbering b.shared.n (λ m. m)
  as_it_is = record { within = λ m h. h; apart = λ l m h g e. e }

  alike : Alike (λ m. m) b (with_records b first dependency next d)
  alike =
      record {
        n = refl;
        g = refl;
        e = refl;
        k = refl;
        options = refl;
        groups = λ g h. refl;
        on_entry = refl;
        modules = λ m h.
            record {
              flags = refl;
              size = refl;
              order = refl;
              shares = refl;
              tags = refl;
              bits = refl;
              id = refl;
              answers = λ g l. refl;
            };
        chains = λ m h. record { there = same.there m h; back = λ l i. (l, same.back m h l i, refl) };
      }

  sound : (c : Given) → Passed c → Sound c
  sound c p = tests_sound c p.tables p.orders_apart p.records

  same_chunks : chunk_list b ≡ chunk_list (with_records b first dependency next d)
  same_chunks = chunks_same as_it_is alike (sound b passed) (sound (with_records b first dependency next d) still_passed)

  same_written : (at : ℕ) (before : Areas) → written at (with_records b first dependency next d) before ≡ written at b before
  unfolding written written_modules written_records members_of places_of
  same_written at before = rw same_chunks

  -- what is written for the build with its new records is what is written for the build
  pub ran_same : (at count : ℕ) (before after : Areas) → Ran (with_records b first dependency next d) at count before after → Ran b at count before after
  ran_same at count before after r =
      record { chunks = r.chunks ∙ ap length (sym same_chunks); areas = r.areas ∙ same_written at before }

  -- and the tables with the new records are those of the build with its new records
  pub relaid_fits : (t : RunTables) (on_entry : ℕ) → RunFits b t on_entry
      → RunFits (with_records b first dependency next d) (tables_with t first dependency next) on_entry
  unfolding settings_of listed_of
  relaid_fits t on_entry f =
      let g = f.tables in
      record {
        tables =
            record {
              passed = still_passed;
              entry = g.entry;
              groups = g.groups;
              settings_are = g.settings_are;
              answers = g.answers;
              tags = g.tags;
              shares = g.shares;
              modules = g.modules;
              bytes = g.bytes;
              offsets = g.offsets;
              sizes = g.sizes;
              ranks = record { for_all = g.ranks.for_all; small = g.ranks.small; by_id = g.ranks.by_id };
              words = g.words;
              flags = g.flags;
              first = refl;
              dependency = refl;
              next = refl;
            };
        order = f.order;
      }
