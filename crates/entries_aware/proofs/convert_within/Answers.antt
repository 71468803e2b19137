-- `entries_aware::convert_within` meets its contract: the set is divided in tables of its own, and its subgroups have their turns.
use Prim.Native.Nat.{ℕ, ◌*◌, ◌≤◌}
use mathlib.Core.List.{List, ◌++◌}
use mathlib.Core.Path.{◌≡◌, sym, ap, ◌∙◌, subst}
use native.Mathlib.Omega.{arith}
use lib.ListN.{length, take, replicate, length-replicate}
use lib.Seq.{length-take-le, take_at}
use Rattle.subgroups.specs.Merged.{Processed}
use Rattle.entries_aware.proofs.SetMembers.{set_members, set_ranks, part_room}
use Rattle.entries_aware.proofs.convert_within.Goals as goal

pub process_entries_aware_group-requires : goal.process_entries_aware_group-requires
process_entries_aware_group-requires g c =
    let few : length c.args.set.now ≤ length (replicate {A = ℕ} g.row.N 0) = rw (length-replicate {A = ℕ} g.row.N 0) c.requires.tables.0 in (
      set_members c.requires.set_turning (omega arith),
      record { row_each = omega (arith, length-replicate {A = ℕ} g.row.WORDS 0); order_fits = length-take-le _ _ few },
      set_ranks c.requires.set_turning,
    )

pub convert_divided-requires : goal.convert_divided-requires
convert_divided-requires g c =
    let a = c.args in
    let q = c.process_entries_aware_group in
    let few : length a.set.now ≤ length (replicate {A = ℕ} g.row.N 0) = rw (length-replicate {A = ℕ} g.row.N 0) c.requires.tables.0 in
    let order : List ℕ = q.new.order in
    let order-long : length order ≡ length a.set.now = q.auto.order ∙ length-take-le _ _ few in
    -- the tail of the array that is not lent
    let order_is : (rest : List ℕ) → take (length a.set.now) (order ++ rest) ≡ order = λ rest. take_at order rest (length a.set.now) order-long in
    let rows : List ℕ = q.new.kind_bits in
    let long : length rows ≡ g.row.WORDS = q.auto.kind_bits ∙ length-replicate {A = ℕ} g.row.WORDS 0 in
    record {
      turning = c.requires.set_turning;
      processed =
          subst (λ (l : List ℕ). Processed a.bits.now a.sizes.now a.set.now a.rank.now a.settings.threshold rows l)
          (sym (order_is _)) q.ensures;
      few = omega arith;
      positions = ap length (order_is _) ∙ order-long;
      row_each = omega arith;
      space = part_room (length a.set.now) a.n (2 * a.n) a.scratch.now (omega (arith, c.requires.set_len_bound.0)) (omega (arith, c.requires.set_len_bound.2));
    }
