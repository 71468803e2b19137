-- `cut::given::pick_given` meets its contract. The loop's invariant: the left total is that of the sizes before place i, and the best is that of
-- the places before it.
use Prim.Native.Nat.{ℕ, ◌-◌, ◌<◌}
use mathlib.Core.Path.{◌≡◌, refl, sym, ap, ap₂, ◌∙◌}
use native.Mathlib.Nat.{add-sub_cancel}
use native.Mathlib.Omega.{arith}
use lib.Ieee.{Float, binary64, add, sub}
use lib.ListN.{length, get_or, take, drop}
use Rattle.lists.specs.Range.{range}
use Rattle.whole.specs.Double.{to_f64, sum_f64}
use Rattle.whole.proofs.Exact.{total_less_part}
use Rattle.ids.specs.Parts.{ids_of}
use Rattle.ids.proofs.IdParts.{ids_length}
use Rattle.cut.specs.Candidate.{candidate_at}
use Rattle.cut.specs.Scan.{considered, chosen_from}
use Rattle.cut.specs.declared.scan.Bounds.{Bounds}
use Rattle.cut.proofs.InOrder.{held}
use Rattle.cut.proofs.Totals.{no_size, size_next}
use Rattle.cut.proofs.GivenOrder.{pair_given, place_given}
use Rattle.cut.proofs.Scanning.{scan_cuts, looked_at}
use Rattle.cut.proofs.given.pick_given.Goals as goal

pub total_of-total-requires : goal.total_of-total-requires
total_of-total-requires c = c.requires.exact

pub loop-i-init : goal.loop-i-init
unfolding range
loop-i-init c = (omega arith, omega arith, no_size c.args.sizes.now, refl)

pub offset_bounds-sizes-i : goal.offset_bounds-sizes-i
offset_bounds-sizes-i c = omega (arith, c.well_formed.1.1.0)

pub int_to_float-left : goal.int_to_float-left
int_to_float-left c =
    held c.args.sizes.now (c.loop-i.i - 1) (omega arith) c.requires.exact

pub look_at-best-requires : goal.look_at-best-requires
look_at-best-requires c =
    let l = c.loop-i in record { named_pair = pair_given _ _ c.args.sizes.now l.i l.invariant.0 (omega arith) c.requires; le_i = (l.invariant.0, omega (arith, c.requires.few)) }

pub loop-i-preserved : goal.loop-i-preserved
loop-i-preserved c =
    let a = c.args in
    let l = a.sizes.now in
    let f = candidate_at (ids_of (length l) a.ids.now.bytes.now a.ids.now.offsets.now) l in
    let bounds : Bounds = record { minimum = a.minimum; maximum = a.maximum } in
    let i = c.loop-i.i in
    let v = c.loop-i.invariant in
    let inside : i < length l = omega arith in
    let before : i - 1 < length l = omega arith in
    let left : Float = add binary64 c.loop-i.left (to_f64 (get_or l (i - 1) 0)) in
    let on_left : left ≡ sum_f64 (take i l) = ap (λ (x : Float). add binary64 x (to_f64 (get_or l (i - 1) 0))) v.2 ∙ size_next l i v.0 before in
    let right : Float = sub binary64 c.total_of-total.result left in
    let on_right : right ≡ sum_f64 (drop i l) =
    ap₂ (sub binary64) c.total_of-total.ensures on_left ∙ total_less_part l i c.requires.exact in (
      omega arith,
      omega arith,
      on_left ∙ ap (λ (n : ℕ). sum_f64 (take n l)) (sym (add-sub_cancel i 1)),
      c.look_at-best.ensures
          ∙ ap₂ (considered bounds) v.3 (place_given a.ids.now.bytes.now a.ids.now.offsets.now l i v.0 inside left right on_left on_right)
          ∙ looked_at bounds f i v.0,
    )

pub returns : goal.returns
returns c =
    let a = c.args in
    let l = a.sizes.now in
    let ids = ids_of (length l) a.ids.now.bytes.now a.ids.now.offsets.now in
    let i = c.loop-i.i in
    let all : i - 1 ≡ length ids - 1 = omega (arith, ids_length (length l) a.ids.now.bytes.now a.ids.now.offsets.now) in
    c.into_cut.ensures
    ∙ ap₂ chosen_from (sym (ids_length (length l) a.ids.now.bytes.now a.ids.now.offsets.now)) c.loop-i.invariant.3
    ∙ scan_cuts (record { minimum = a.minimum; maximum = a.maximum }) ids l (i - 1) all
