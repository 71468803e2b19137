-- `items::convert::convert_item_to_chunks` meets its contract: what is left of the item is dropped or emitted.
-- ---- what is known once what is left is kept
use Prim.Native.Nat.{ℕ, ◌≤◌}
use mathlib.Core.List.{List}
use mathlib.Core.Path.{◌≡◌, sym, ap, ◌∙◌, subst}
use native.Mathlib.Omega.{arith}
use lib.ListN.{length, take}
use lib.Seq.{length-take-le}
use Rattle.emitting.specs.Emitted.{work}
use Rattle.emitting.proofs.SameAreas.{same_areas}
use Rattle.whole.specs.Double.{sum_f64}
use Rattle.cut.specs.Order.{sizes_in, Sized}
use Rattle.left.specs.Untaken.{untaken}
use Rattle.left.proofs.KeepLeft.{left_few}
use Rattle.items.specs.Turn.{Tables, emitted_within, ItemReady}
use Rattle.items.proofs.FromLeft.{none_converted, nothing_left, below_minimum, from_minimum}
use Rattle.items.proofs.Within.{same_converted}
use Rattle.items.proofs.convert.convert_item_to_chunks.Goals as goal

pub keep_left-count-requires : goal.keep_left-count-requires
keep_left-count-requires c = c.requires.listed

pub returns-then-count-eq0 : goal.returns-then-count-eq0
returns-then-count-eq0 c = record { converted = none_converted _ _ _ _ (nothing_left ((record { bytes = c.args.ids.now.bytes.now; offsets = c.args.ids.now.offsets.now; sizes = c.args.sizes.now; rank = c.args.rank.now })) c.args.head c.args.limits ((untaken c.args.areas.now.chunk_of.now c.args.list.now)) (sym c.keep_left-count.ensures.number ∙ c.if-count-eq0.true)); members_len_unchanged = c.keep_left-count.ensures.long; same = same_areas _ }

pub slice_bounds-total_size-end : goal.slice_bounds-total_size-end
slice_bounds-total_size-end c =
    let fits : c.keep_left-count.result ≤ length c.keep_left-count.new.members =
    omega (arith, c.keep_left-count.ensures.number, c.keep_left-count.ensures.long, left_few c.args.areas.now.chunk_of.now c.args.list.now, c.requires.listed.space) in
    fits

pub slice_bounds-total_size-end-2 : goal.slice_bounds-total_size-end-2
slice_bounds-total_size-end-2 c =
    let fits : c.keep_left-count.result ≤ length c.keep_left-count.new.members =
    omega (arith, c.keep_left-count.ensures.number, c.keep_left-count.ensures.long, left_few c.args.areas.now.chunk_of.now c.args.list.now, c.requires.listed.space) in
    let kept_length : c.keep_left-count.result ≡ length (take c.keep_left-count.result c.keep_left-count.new.members) =
    sym (length-take-le _ _ (fits)) in
    kept_length

pub total_size-total-requires : goal.total_size-total-requires
total_size-total-requires c =
    subst (λ (l : List ℕ). Sized c.args.sizes.now l) (sym c.keep_left-count.ensures.written) c.requires.item_ready.tables.sized

pub returns-then-total-limits : goal.returns-then-total-limits
returns-then-total-limits c =
    let some : (c.keep_left-count.result ≡ 0 → ⊥) → 1 ≤ length ((untaken c.args.areas.now.chunk_of.now c.args.list.now)) =
    λ h. omega (arith, c.keep_left-count.ensures.number) in
    let total = c.total_size-total.ensures ∙ ap (λ (l : List ℕ). sum_f64 (sizes_in c.args.sizes.now l)) c.keep_left-count.ensures.written in
    let filled = some c.if-count-eq0.false in record { converted = none_converted _ _ _ _ (below_minimum ((record { bytes = c.args.ids.now.bytes.now; offsets = c.args.ids.now.offsets.now; sizes = c.args.sizes.now; rank = c.args.rank.now })) c.args.head c.args.limits ((untaken c.args.areas.now.chunk_of.now c.args.list.now)) filled total c.if-total-limits.true); members_len_unchanged = c.keep_left-count.ensures.long; same = same_areas _ }

pub slice_bounds-emit_item-end : goal.slice_bounds-emit_item-end
slice_bounds-emit_item-end c =
    let fits : c.keep_left-count.result ≤ length c.keep_left-count.new.members =
    omega (arith, c.keep_left-count.ensures.number, c.keep_left-count.ensures.long, left_few c.args.areas.now.chunk_of.now c.args.list.now, c.requires.listed.space) in
    fits

pub slice_bounds-emit_item-end-2 : goal.slice_bounds-emit_item-end-2
slice_bounds-emit_item-end-2 c =
    let fits : c.keep_left-count.result ≤ length c.keep_left-count.new.members =
    omega (arith, c.keep_left-count.ensures.number, c.keep_left-count.ensures.long, left_few c.args.areas.now.chunk_of.now c.args.list.now, c.requires.listed.space) in
    let kept_length : c.keep_left-count.result ≡ length (take c.keep_left-count.result c.keep_left-count.new.members) =
    sym (length-take-le _ _ (fits)) in
    kept_length

pub emit_item-requires : goal.emit_item-requires
emit_item-requires c =
    let fits : c.keep_left-count.result ≤ length c.keep_left-count.new.members =
    omega (arith, c.keep_left-count.ensures.number, c.keep_left-count.ensures.long, left_few c.args.areas.now.chunk_of.now c.args.list.now, c.requires.listed.space) in
    let kept_length : c.keep_left-count.result ≡ length (take c.keep_left-count.result c.keep_left-count.new.members) =
    sym (length-take-le _ _ (fits)) in
    let some : (c.keep_left-count.result ≡ 0 → ⊥) → 1 ≤ length ((untaken c.args.areas.now.chunk_of.now c.args.list.now)) =
    λ h. omega (arith, c.keep_left-count.ensures.number) in
    let a = c.args in record {
      item_ready = subst (λ (l : List ℕ). ItemReady ((record { bytes = c.args.ids.now.bytes.now; offsets = c.args.ids.now.offsets.now; sizes = c.args.sizes.now; rank = c.args.rank.now })) a.bits.now l (work c.args.areas.now) a.number.0 a.at) (sym c.keep_left-count.ensures.written) c.requires.item_ready;
      totalled = record {
        some = omega (arith, c.keep_left-count.ensures.number, kept_length, some c.if-count-eq0.false);
        whole = c.total_size-total.ensures;
      };
    }

pub returns-clause-converted : goal.returns-clause-converted
returns-clause-converted c =
    let a = c.args in
    let t : Tables = record { bytes = a.ids.now.bytes.now; offsets = a.ids.now.offsets.now; sizes = a.sizes.now; rank = a.rank.now } in
    let modules = untaken a.areas.now.chunk_of.now a.list.now in
    let total = c.total_size-total.ensures ∙ ap (λ (l : List ℕ). sum_f64 (sizes_in a.sizes.now l)) c.keep_left-count.ensures.written in
    let same = from_minimum t a.head a.limits modules (omega (arith, c.keep_left-count.ensures.number)) total c.if-total-limits.false in
    same_converted (same ∙ ap (λ (l : List ℕ). emitted_within a.limits.maximum t a.head a.limits.minimum l) (sym c.keep_left-count.ensures.written)) c.emit_item.ensures.emitted
