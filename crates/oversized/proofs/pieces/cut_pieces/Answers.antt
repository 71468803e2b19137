-- `oversized::pieces::cut_pieces` meets its contract: each turn finishes the part on top of the stack, or cuts it and looks at its right side
-- next. The measure is twice the end of that part, less how many parts there are.
use Prim.Native.Nat.{ℕ, ◌+◌, ◌-◌, ◌≤◌, ◌<◌}
use mathlib.Core.List.{List}
use mathlib.Core.Path.{◌≡◌, refl, sym, ap, ◌∙◌}
use native.Mathlib.Omega.{arith}
use lib.ListN.{length, get_or, take, drop, length-drop, length-set}
use lib.Seq.{length-take-le}
use Rattle.cut.specs.Cut.{cut}
use Rattle.cut.specs.Call.{chosen_of}
use Rattle.oversized.proofs.Areas.{area_start, area_done, area_within, area_below, area_room, starts_room, sizes_room, marks_room, area_answer}
use Rattle.oversized.proofs.Areas.{area_taken, area_taken_less, area_middle, area_space, area_cut, area_cut_less}
use Rattle.oversized.proofs.Told.{told_none}
use borrow.Enum.Refused.{opened}
use Rattle.oversized.proofs.pieces.cut_pieces.Goals as goal

part_length : {A : Type 0} (l : List A) (a b : ℕ) → a ≤ b → b ≤ length l → length (take (b - a) (drop a l)) ≡ b - a
part_length l a b h k = length-take-le (b - a) (drop a l) (simp length-drop (omega arith))

pub slice_bounds-cut_within-count : goal.slice_bounds-cut_within-count
slice_bounds-cut_within-count c =
    let inside : c.loop-top.top < length c.args.similar.now =
    c.loop-top-test.true in
    let below : get_or c.loop-top.starts c.loop-top.top 0 < c.loop-top.end =
    let m = c.requires.modules in area_below m _ _ (c.loop-top.invariant.0 m) (inside) in
    omega (arith, below)

pub slice_bounds-cut_within-start : goal.slice_bounds-cut_within-start
slice_bounds-cut_within-start c =
    let inside : c.loop-top.top < length c.args.similar.now =
    c.loop-top-test.true in
    let below : get_or c.loop-top.starts c.loop-top.top 0 < c.loop-top.end =
    let m = c.requires.modules in area_below m _ _ (c.loop-top.invariant.0 m) (inside) in
    omega (arith, below)

pub slice_bounds-cut_within-end : goal.slice_bounds-cut_within-end
slice_bounds-cut_within-end c =
    let inside : c.loop-top.top < length c.args.similar.now =
    c.loop-top-test.true in
    let within : c.loop-top.end ≤ length c.args.similar.now =
    let m = c.requires.modules in area_within m _ _ (c.loop-top.invariant.0 m) (inside) in
    within

pub slice_bounds-cut_within-count-in-loop-top : goal.slice_bounds-cut_within-count-in-loop-top
slice_bounds-cut_within-count-in-loop-top c =
    let inside : c.loop-top.top < length c.args.similar.now =
    c.loop-top-test.true in
    let below : get_or c.loop-top.starts c.loop-top.top 0 < c.loop-top.end =
    let m = c.requires.modules in area_below m _ _ (c.loop-top.invariant.0 m) (inside) in
    omega (arith, below)

pub slice_bounds-cut_within-start-in-loop-top : goal.slice_bounds-cut_within-start-in-loop-top
slice_bounds-cut_within-start-in-loop-top c =
    let inside : c.loop-top.top < length c.args.similar.now =
    c.loop-top-test.true in
    let below : get_or c.loop-top.starts c.loop-top.top 0 < c.loop-top.end =
    let m = c.requires.modules in area_below m _ _ (c.loop-top.invariant.0 m) (inside) in
    omega (arith, below)

pub slice_bounds-cut_within-end-in-loop-top : goal.slice_bounds-cut_within-end-in-loop-top
slice_bounds-cut_within-end-in-loop-top c =
    let inside : c.loop-top.top < length c.args.similar.now =
    c.loop-top-test.true in
    let within : c.loop-top.end ≤ length c.args.similar.now =
    let m = c.requires.modules in area_within m _ _ (c.loop-top.invariant.0 m) (inside) in
    let in-sums : length c.args.sums.now ≡ length c.args.similar.now =
    let m = c.requires.modules in m.summed.as_many ∙ sym m.compared.as_many in
    omega (arith, within, in-sums)

pub cut_within-answer-requires : goal.cut_within-answer-requires
cut_within-answer-requires c =
    let inside : c.loop-top.top < length c.args.similar.now =
    c.loop-top-test.true in
    let below : get_or c.loop-top.starts c.loop-top.top 0 < c.loop-top.end =
    let m = c.requires.modules in area_below m _ _ (c.loop-top.invariant.0 m) (inside) in
    let within : c.loop-top.end ≤ length c.args.similar.now =
    let m = c.requires.modules in area_within m _ _ (c.loop-top.invariant.0 m) (inside) in
    let in-sums : length c.args.sums.now ≡ length c.args.similar.now =
    let m = c.requires.modules in m.summed.as_many ∙ sym m.compared.as_many in
    let l = c.loop-top in
    let start = get_or l.starts l.top 0 in
    let first = part_length c.args.similar.now start l.end (omega (arith, below)) (within) in
    let second = part_length c.args.sums.now start l.end (omega (arith, below)) (omega (arith, within, in-sums)) in
    (omega (arith, first, below), omega (arith, first, second))

pub end_piece-requires : goal.end_piece-requires
end_piece-requires c =
    let inside : c.loop-top.top < length c.args.similar.now =
    c.loop-top-test.true in
    let below : get_or c.loop-top.starts c.loop-top.top 0 < c.loop-top.end =
    let m = c.requires.modules in area_below m _ _ (c.loop-top.invariant.0 m) (inside) in
    let room : c.loop-top.count + c.loop-top.end ≤ length c.args.similar.now =
    let m = c.requires.modules in area_room m _ _ (c.loop-top.invariant.0 m) (inside) in
    let in_starts : length c.args.similar.now ≤ length c.loop-top.starts =
    let m = c.requires.modules in starts_room m _ _ (c.loop-top.invariant.0 m) (inside) in
    let in-sizes : length c.args.similar.now ≤ length c.loop-top.piece_sizes =
    let m = c.requires.modules in sizes_room m _ _ (c.loop-top.invariant.0 m) (inside) in
    let in_marks : length c.args.similar.now ≤ length c.loop-top.marks =
    let m = c.requires.modules in marks_room m _ _ (c.loop-top.invariant.0 m) (inside) in
    let within : c.loop-top.end ≤ length c.args.similar.now =
    let m = c.requires.modules in area_within m _ _ (c.loop-top.invariant.0 m) (inside) in
    let short : c.loop-top.end ≤ 4096 =
    omega (arith, within, c.requires.few) in
    record {
      starts_room = omega (arith, below, room, in_starts);
      sizes_room = omega (arith, below, room, in-sizes);
      marks_room = omega (arith, below, room, in_marks);
      fits = omega (arith, below, short);
    }

pub overflow_add-count : goal.overflow_add-count
overflow_add-count c =
    let inside : c.loop-top.top < length c.args.similar.now =
    c.loop-top-test.true in
    let room : c.loop-top.count + c.loop-top.end ≤ length c.args.similar.now =
    let m = c.requires.modules in area_room m _ _ (c.loop-top.invariant.0 m) (inside) in
    omega (arith, room, c.requires.few)

pub loop-top-smaller-in_default : goal.loop-top-smaller-in_default
loop-top-smaller-in_default c =
    let inside : c.loop-top.top < length c.args.similar.now =
    c.loop-top-test.true in
    let m = c.requires.modules in
    area_taken_less m _ _ (c.loop-top.invariant.0 m) (inside)

pub push_pieces-requires : goal.push_pieces-requires
push_pieces-requires c =
    let inside : c.loop-top.top < length c.args.similar.now =
    c.loop-top-test.true in
    let within : c.loop-top.end ≤ length c.args.similar.now =
    let m = c.requires.modules in area_within m _ _ (c.loop-top.invariant.0 m) (inside) in
    let in_starts : length c.args.similar.now ≤ length c.loop-top.starts =
    let m = c.requires.modules in starts_room m _ _ (c.loop-top.invariant.0 m) (inside) in
    let in-sizes : length c.args.similar.now ≤ length c.loop-top.piece_sizes =
    let m = c.requires.modules in sizes_room m _ _ (c.loop-top.invariant.0 m) (inside) in
    let short : c.loop-top.end ≤ 4096 =
    omega (arith, within, c.requires.few) in
    let m = c.requires.modules in
    let t = c.loop-top.invariant.0 m in
    let q =
    area_answer m _ _ t (inside) (cut c.in-At.point.index c.in-At.point.left_size c.in-At.point.right_size)
    (λ k. sym (ap chosen_of c.in-At.is) ∙ c.cut_within-answer.ensures k) in
    record {
      some = omega (arith, area_space m _ _ t (inside) _ _ _ q, within);
      starts_room = omega (arith, inside, in_starts);
      sizes_room = omega (arith, inside, in-sizes);
      fits = omega (arith, area_middle m _ _ t (inside) _ _ _ q, short);
    }

pub overflow_sub-top-in-loop-top : goal.overflow_sub-top-in-loop-top
overflow_sub-top-in-loop-top c =
    let inside : c.loop-top.top < length c.args.similar.now =
    c.loop-top-test.true in
    let within : c.loop-top.end ≤ length c.args.similar.now =
    let m = c.requires.modules in area_within m _ _ (c.loop-top.invariant.0 m) (inside) in
    let m = c.requires.modules in
    let t = c.loop-top.invariant.0 m in
    let q =
    area_answer m _ _ t (inside) (cut c.in-At.point.index c.in-At.point.left_size c.in-At.point.right_size)
    (λ k. sym (ap chosen_of c.in-At.is) ∙ c.cut_within-answer.ensures k) in
    omega (arith, area_space m _ _ t (inside) _ _ _ q, within)

pub loop-top-smaller : goal.loop-top-smaller
loop-top-smaller c =
    let inside : c.loop-top.top < length c.args.similar.now =
    c.loop-top-test.true in
    let m = c.requires.modules in
    let t = c.loop-top.invariant.0 m in
    let q =
    area_answer m _ _ t (inside) (cut c.in-At.point.index c.in-At.point.left_size c.in-At.point.right_size)
    (λ k. sym (ap chosen_of c.in-At.is) ∙ c.cut_within-answer.ensures k) in
    area_cut_less m _ _ t (inside) _ _ _ q

pub loop-top-preserved : goal.loop-top-preserved
loop-top-preserved c =
    let inside : c.loop-top.top < length c.args.similar.now =
    c.loop-top-test.true in
    let v = c.loop-top.invariant in (
      λ m. rw (c.push_pieces.ensures.begins, c.push_pieces.ensures.sized) (area_cut m _ _ (v.0 m) (inside) c.in-At.point.index c.in-At.point.left_size c.in-At.point.right_size
          (area_answer m _ _ (v.0 m) (inside) (cut c.in-At.point.index c.in-At.point.left_size c.in-At.point.right_size)
          (λ k. sym (ap chosen_of c.in-At.is) ∙ c.cut_within-answer.ensures k))),
      omega (arith, inside),
      ap length c.push_pieces.ensures.begins ∙ simp length-set (simp length-set at v.2),
      ap length c.push_pieces.ensures.sized ∙ simp length-set (simp length-set at v.3),
      v.4,
    )

pub returns : goal.returns
returns c m = area_done m _ _ (c.loop-top.invariant.0 m) (omega arith)

pub loop-top-init : goal.loop-top-init
loop-top-init c = (
  λ m. area_start m _ _ c.args.starts.now c.args.piece_sizes.now c.args.marks.now c.requires.some c.requires.starts_room c.requires.sizes_room c.requires.marks_room,
  omega arith,
  refl,
  refl,
  refl,
)

pub loop-top-preserved-in_default : goal.loop-top-preserved-in_default
loop-top-preserved-in_default c =
    let inside : c.loop-top.top < length c.args.similar.now =
    c.loop-top-test.true in
    let v = c.loop-top.invariant in (
      λ m. rw (c.end_piece.ensures.begins, c.end_piece.ensures.sized, c.end_piece.ensures.marked, c.mark_by-mark.ensures)
          (area_taken m _ _ (v.0 m) (inside) _ (told_none c.cut_within-answer.result (opened c.in_default.in_default-own.keys2))
          (area_answer m _ _ (v.0 m) (inside) _ (λ k. c.cut_within-answer.ensures k))),
      omega (arith, inside),
      ap length c.end_piece.ensures.begins ∙ simp length-set (simp length-set at v.2),
      ap length c.end_piece.ensures.sized ∙ simp length-set (simp length-set at v.3),
      ap length c.end_piece.ensures.marked ∙ simp length-set v.4,
    )
