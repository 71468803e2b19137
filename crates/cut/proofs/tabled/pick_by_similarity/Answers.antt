-- `cut::tabled::pick_by_similarity` meets its contract. The loop's invariant: the best is that of the places before i, as the tables have them.
use Prim.Native.Nat.{◌-◌}
use mathlib.Core.List.{List, foldl}
use mathlib.Core.Path.{◌≡◌, refl, sym, ap, ap₂, ◌∙◌}
use native.Mathlib.Omega.{arith}
use lib.ListN.{length}
use Rattle.lists.specs.Range.{range}
use Rattle.cut.specs.Scan.{considered, chosen_from}
use Rattle.cut.specs.declared.candidate.Candidate.{Candidate}
use Rattle.std.specs.Prelude.{Option, None}
use Rattle.cut.specs.declared.scan.Bounds.{Bounds}
use Rattle.cut.proofs.Scanning.{scan_cuts, looked_at}
use Rattle.cut.proofs.FromTables.{candidate_from, places_tabled}
use Rattle.cut.proofs.tabled.pick_by_similarity.Goals as goal

pub loop-i-init : goal.loop-i-init
unfolding range
loop-i-init c = (omega arith, omega arith, refl)

pub offset_bounds-sums-i : goal.offset_bounds-sums-i
offset_bounds-sums-i c = omega (arith, c.well_formed.1.0)

pub loop-i-preserved : goal.loop-i-preserved
unfolding candidate_from
loop-i-preserved c =
    let a = c.args in
    let f = candidate_from a.similar.now a.sums.now a.total in
    let bounds : Bounds = record { minimum = a.minimum; maximum = a.maximum } in
    let i = c.loop-i.i in
    let v = c.loop-i.invariant in
    (omega arith, omega arith, c.consider-best.ensures ∙ ap (λ (b : Option Candidate). considered bounds b (f i)) v.2 ∙ looked_at bounds f i v.0)

pub returns : goal.returns
returns c m =
    let a = c.args in
    let bounds : Bounds = record { minimum = a.minimum; maximum = a.maximum } in
    let i = c.loop-i.i in
    let v = c.loop-i.invariant in
    let all : i - 1 ≡ length a.similar.now - 1 = omega arith in
    let all_ids : i - 1 ≡ length m.ids - 1 = omega (arith, m.as_many) in
    c.into_cut.ensures
    ∙ ap₂ chosen_from (sym m.as_many) v.2
    ∙ ap (λ (cs : List Candidate). chosen_from (length m.ids) (foldl (considered bounds) None cs)) (places_tabled a.similar.now a.sums.now a.total m (i - 1) all)
    ∙ scan_cuts bounds m.ids m.sizes (i - 1) all_ids
