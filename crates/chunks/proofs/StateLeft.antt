-- What the conditions of the state leave: a small chunk count on entry, and areas with room for a run.
use Prim.Native.Nat.{ℕ, ◌*◌, ◌≤◌}
use mathlib.Core.Bool.{false}
use mathlib.Core.Path.{◌≡◌}
use native.Mathlib.Omega.{arith}
use borrow.Author.Tests.{ltb-false}
use lib.ListN.{length}
use Rattle.lists.proofs.Below.{neither}
use Rattle.grouping.specs.Given.{Given, ModuleAreas, ChunkRecords, Areas}
use Rattle.grouping.specs.Conditions.{
  bad_entry_count,
  short_module_area,
  short_record_area,
  bad_area,
  bad_scratch,
  scratch_need,
  state_tests,
}
use Rattle.refusal.specs.Outcome.{first_number}
use Rattle.refusal.proofs.Ladder.{left}
use Rattle.run.specs.Ran.{RunRoom}

module _ (n : ℕ) where
  module_room : (a : ModuleAreas) → short_module_area n a ≡ false → (n ≤ length a.chunk_of) × (n ≤ length a.next_of)
  unfolding short_module_area
  module_room a e = let s = neither _ _ e in (ltb-false _ _ s.0, ltb-false _ _ s.1)

  record_room : (a : ChunkRecords) → short_record_area n a ≡ false
      → (n ≤ length a.first_of) × (n ≤ length a.group_of) × (n ≤ length a.name_of) × (n ≤ length a.size_of)
      × (4 * n ≤ length a.bits_of) × (n ≤ length a.mark_of)
  unfolding short_record_area
  record_room a e =
      let first = neither _ _ e in
      let group = neither _ _ first.1 in
      let name = neither _ _ group.1 in
      let size = neither _ _ name.1 in
      let bits = neither _ _ size.1 in (
        ltb-false _ _ first.0,
        ltb-false _ _ group.0,
        ltb-false _ _ name.0,
        ltb-false _ _ size.0,
        ltb-false _ _ bits.0,
        ltb-false _ _ bits.1,
      )

module _ (b : Given) (a : Areas) (none : 0 ≡ first_number (state_tests b.on_entry b.shared.n (scratch_need b) a)) where
  tests : (bad_entry_count b.on_entry ≡ false) × (bad_area b.shared.n a ≡ false) × (bad_scratch (scratch_need b) a.scratch ≡ false)
  unfolding state_tests
  tests =
      let p = left 11 (bad_entry_count b.on_entry) _ (omega arith) none in
      let q = left 12 (bad_area b.shared.n a) _ (omega arith) p.1 in
      (p.0, q.0, (left 13 (bad_scratch (scratch_need b) a.scratch) _ (omega arith) q.1).0)

  pub small_count : b.on_entry ≤ 69631
  unfolding bad_entry_count
  small_count = let few = ltb-false 65535 b.on_entry tests.0 in omega arith

  scratch_room : 32 * b.shared.n ≤ length a.scratch
  unfolding bad_scratch scratch_need
  scratch_room = let enough = ltb-false (length a.scratch) (scratch_need b) tests.2 in omega arith

  -- the first new chunk has the first record
  pub room : RunRoom b.shared.n 0 a
  unfolding bad_area
  room =
      let parts = neither (short_module_area b.shared.n a.modules) (short_record_area b.shared.n a.records) tests.1 in
      let modules = module_room b.shared.n a.modules parts.0 in
      let records = record_room b.shared.n a.records parts.1 in
      record {
        numbers = modules.0;
        nexts = modules.1;
        firsts = omega (arith, records.0);
        groups = omega (arith, records.1);
        names = omega (arith, records.2);
        sizes = omega (arith, records.3);
        words = omega (arith, records.4);
        marks = omega (arith, records.5);
        work = scratch_room;
      }
