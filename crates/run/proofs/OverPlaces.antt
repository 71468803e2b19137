-- The eligible modules of a build in execution order, kept from its normal included ones: the tables with them in place.
use Prim.Native.Nat.{ℕ, ◌≤◌}
use mathlib.Core.List.{List}
use mathlib.Core.Path.{sym, ap, subst}
use native.Mathlib.Omega.{arith}
use lib.ListN.{length, take}
use Rattle.lists.specs.Keep.{keep}
use Rattle.lists.specs.Range.{range}
use Rattle.lists.proofs.KeepLength.{keep_le}
use Rattle.lists.proofs.Range.{length_range}
use Rattle.lists.proofs.Rearranged.{sort_length}
use Rattle.flags.specs.Flags.{eligible_at}
use Rattle.grouping.specs.Given.{Given, Areas, is_listed}
use Rattle.grouping.specs.Tree.{runs_before, places_of}
use Rattle.emitting.specs.Emitted.{Work}
use Rattle.linking.proofs.ChunkModules.{places_distinct}
use Rattle.linking.proofs.Untaken.{places_count}
use Rattle.exec_order.specs.Listed.{Kept, Chosen}
use Rattle.places.specs.Ordered.{listed_of}
use Rattle.places.proofs.OfBuild.{order_chosen, order_places}
use Rattle.running.specs.State.{Roomy}
use Rattle.running.proofs.Tests.{few_modules, passed_sound}
use Rattle.run.specs.Fits.{RunTables, RunFits}
use Rattle.run.specs.Made.{PlacesFit}
use Rattle.run.specs.Ran.{RunRoom}

-- the tables with another list of modules
abbrev pub over : RunTables → List ℕ → RunTables
over t order =
    record {
      settings = t.settings;
      g = t.g;
      asked = t.asked;
      n = t.n;
      tables = t.tables;
      bits = t.bits;
      walking =
          record {
            flags = t.walking.flags;
            first = t.walking.first;
            dependency = t.walking.dependency;
            next = t.walking.next;
            order = order;
          };
    }

-- the areas that are written as the run goes
abbrev pub work_of : Areas → Work
work_of a =
    record {
      chunk_of = a.modules.chunk_of;
      group_of = a.records.group_of;
      name_of = a.records.name_of;
      size_of = a.records.size_of;
      bits_of = a.records.bits_of;
      mark_of = a.records.mark_of;
    }

module _ (b : Given) (t : RunTables) (on_entry : ℕ) (fits : RunFits b t on_entry) where
  few_listed : length t.walking.order ≤ 4096
  unfolding listed_of
  few_listed =
      let l = keep (is_listed b) (range 0 b.shared.n) in
      omega (
        arith,
        ap (λ (l : List ℕ). length l) fits.order,
        sort_length (runs_before b) l,
        keep_le (is_listed b) (range 0 b.shared.n),
        length_range 0 b.shared.n,
        few_modules b fits.tables.passed,
      )

  -- what is asked to keep the eligible ones of the order
  pub run_chosen : {area : List ℕ} → 4096 ≤ length area → Chosen t.walking.flags t.walking.order area
  run_chosen {area} h =
      subst (λ (l : List ℕ). Chosen l t.walking.order area) (sym fits.tables.flags)
      (order_chosen b fits.tables.passed.tables fits.order (omega (arith, few_listed)))

  module _ {r : ℕ} {entry exit : List ℕ} (k : Kept (keep (eligible_at t.walking.flags) t.walking.order) r entry exit) where
    -- those are the places of the build
    pub run_kept : Kept (places_of b) r entry exit
    run_kept =
        order_places b fits.order
        (subst (λ (l : List ℕ). Kept (keep (eligible_at l) t.walking.order) r entry exit) fits.tables.flags k)

    pub run_count : 4096 ≤ length entry → r ≤ length exit
    run_count h =
        let passed = fits.tables.passed in
        omega (arith, run_kept.count, k.same_length, places_count b (places_distinct b (passed_sound b passed)), few_modules b passed)

    pub run_places : PlacesFit b (over t (take r exit)) on_entry
    run_places =
        let f = fits.tables in
        record {
          tables =
              record {
                passed = f.passed;
                entry = f.entry;
                groups = f.groups;
                settings_are = f.settings_are;
                answers = f.answers;
                tags = f.tags;
                shares = f.shares;
                modules = f.modules;
                bytes = f.bytes;
                offsets = f.offsets;
                sizes = f.sizes;
                ranks = f.ranks;
                words = f.words;
                flags = f.flags;
                first = f.first;
                dependency = f.dependency;
                next = f.next;
              };
          order = run_kept.first;
        }

pub run_room : (b : Given) (t : RunTables) (on_entry at : ℕ) (a : Areas) → RunFits b t on_entry → RunRoom t.n at a → Roomy b at (work_of a)
run_room b t on_entry at a fits room =
    let e = fits.tables.modules in
    record {
      modules = omega (arith, room.numbers);
      groups = omega (arith, room.groups);
      names = omega (arith, room.names);
      sizes = omega (arith, room.sizes);
      words = omega (arith, room.words);
      marks = omega (arith, room.marks);
    }
