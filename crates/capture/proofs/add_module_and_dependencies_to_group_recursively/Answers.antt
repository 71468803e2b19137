-- The public call meets its contract. Each refusal is the first test that applies; where none does, the capture is made over the lent part of
-- the marks and scratch is cleared.
use mathlib.Core.Path.{sym, ◌∙◌}
use native.Mathlib.Omega.{arith}
use borrow.Author.Tests.{lt-ltb, le-ltb, leb-false}
use lib.ListN.{length}
use lib.Seq.{length-take-le, length_front}
use Rattle.std.proofs.lemmas.Result.{err_from_is_err_and}
use Rattle.capture.proofs.Ladder.{InputPassed, input_passed, refuses_input, refuses_12, refuses_13, answers}
use Rattle.capture.proofs.Accepted.{start_ready, written}
use Rattle.capture.proofs.add_module_and_dependencies_to_group_recursively.Goals as goal

pub returns-in_err-test_input : goal.returns-in_err-test_input
returns-in_err-test_input c =
    let p = err_from_is_err_and c.from_residual.result c.from_residual.ensures.1 in
    rw (p.1, p.2)
    (refuses_input ((record {
      n = c.args.n;
      d = c.args.d;
      recursive = c.args.recursive;
      from = c.args.from.0;
      flags = c.args.flags.now;
      first = c.args.records.now.first.now;
      dependency = c.args.records.now.dependency.now;
      next = c.args.records.now.next.now;
    })) ((record { marks = c.args.marks.now; scratch = c.args.scratch.now })) _ c.in_err-test_input.ensures)

pub returns-then-marks-n : goal.returns-then-marks-n
returns-then-marks-n c =
    let passed : InputPassed c.args.n c.args.d c.args.from.0 c.args.flags.now c.args.records.now.first.now c.args.records.now.dependency.now c.args.records.now.next.now =
    let s = c.args in
    input_passed s.n s.d s.from.0 s.flags.now s.records.now.first.now s.records.now.dependency.now s.records.now.next.now c.in_ok-test_input.ensures in
    refuses_12 ((record {
      n = c.args.n;
      d = c.args.d;
      recursive = c.args.recursive;
      from = c.args.from.0;
      flags = c.args.flags.now;
      first = c.args.records.now.first.now;
      dependency = c.args.records.now.dependency.now;
      next = c.args.records.now.next.now;
    })) ((record { marks = c.args.marks.now; scratch = c.args.scratch.now })) (passed) (lt-ltb (length c.args.marks.now) c.args.n (omega arith))

pub returns-then-scratch-n : goal.returns-then-scratch-n
returns-then-scratch-n c =
    let passed : InputPassed c.args.n c.args.d c.args.from.0 c.args.flags.now c.args.records.now.first.now c.args.records.now.dependency.now c.args.records.now.next.now =
    let s = c.args in
    input_passed s.n s.d s.from.0 s.flags.now s.records.now.first.now s.records.now.dependency.now s.records.now.next.now c.in_ok-test_input.ensures in
    refuses_13 ((record {
      n = c.args.n;
      d = c.args.d;
      recursive = c.args.recursive;
      from = c.args.from.0;
      flags = c.args.flags.now;
      first = c.args.records.now.first.now;
      dependency = c.args.records.now.dependency.now;
      next = c.args.records.now.next.now;
    })) ((record { marks = c.args.marks.now; scratch = c.args.scratch.now })) (passed) (le-ltb (length c.args.marks.now) c.args.n (omega arith)) (lt-ltb (length c.args.scratch.now) c.args.n (omega arith))

pub slice_bounds-capture_from-end-2 : goal.slice_bounds-capture_from-end-2
slice_bounds-capture_from-end-2 c = sym (length-take-le c.args.n c.args.marks.now (omega arith))

pub capture_from-requires : goal.capture_from-requires
capture_from-requires c =
    let passed : InputPassed c.args.n c.args.d c.args.from.0 c.args.flags.now c.args.records.now.first.now c.args.records.now.dependency.now c.args.records.now.next.now =
    let s = c.args in
    input_passed s.n s.d s.from.0 s.flags.now s.records.now.first.now s.records.now.dependency.now s.records.now.next.now c.in_ok-test_input.ensures in
    let p = passed in
    let part = length-take-le c.args.n c.args.marks.now (omega arith) in
    start_ready ((record {
      n = c.args.n;
      d = c.args.d;
      recursive = c.args.recursive;
      from = c.args.from.0;
      flags = c.args.flags.now;
      first = c.args.records.now.first.now;
      dependency = c.args.records.now.dependency.now;
      next = c.args.records.now.next.now;
    })) p.counts p.lengths p.records (leb-false c.args.n c.args.from.0 p.start_module) _ c.args.scratch.now part (omega arith)

pub shape_of-marks : goal.shape_of-marks
shape_of-marks c = length_front c.args.marks.now c.capture_from.new.marks c.args.n c.capture_from.auto.marks

pub shape_of-scratch : goal.shape_of-scratch
shape_of-scratch c = c.fill.auto.self ∙ c.capture_from.auto.queue

pub returns : goal.returns
returns c =
    let passed : InputPassed c.args.n c.args.d c.args.from.0 c.args.flags.now c.args.records.now.first.now c.args.records.now.dependency.now c.args.records.now.next.now =
    let s = c.args in
    input_passed s.n s.d s.from.0 s.flags.now s.records.now.first.now s.records.now.dependency.now s.records.now.next.now c.in_ok-test_input.ensures in
    let f = c.capture_from in
    let p = passed in
    answers ((record {
      n = c.args.n;
      d = c.args.d;
      recursive = c.args.recursive;
      from = c.args.from.0;
      flags = c.args.flags.now;
      first = c.args.records.now.first.now;
      dependency = c.args.records.now.dependency.now;
      next = c.args.records.now.next.now;
    })) ((record { marks = c.args.marks.now; scratch = c.args.scratch.now })) p (le-ltb (length c.args.marks.now) c.args.n (omega arith)) (le-ltb (length c.args.scratch.now) c.args.n (omega arith)) _
    (written ((record {
      n = c.args.n;
      d = c.args.d;
      recursive = c.args.recursive;
      from = c.args.from.0;
      flags = c.args.flags.now;
      first = c.args.records.now.first.now;
      dependency = c.args.records.now.dependency.now;
      next = c.args.records.now.next.now;
    })) p.counts p.lengths ((record { marks = c.args.marks.now; scratch = c.args.scratch.now })) (omega arith) f.new.marks f.new.queue c.fill.new.self f.auto.marks f.ensures f.auto.queue (c.fill.ensures.after (λ y e. e)))
