-- `capture::test_input` meets its contract: the number is that of the first test that applies.
use mathlib.Core.Bool.{false}
use mathlib.Core.Path.{◌≡◌, sym, ◌∙◌}
use native.Mathlib.Omega.{arith}
use borrow.Author.Tests.{le-leb, lt-leb}
use Rattle.refusal.proofs.Ladder.{none_applies, applies, passes, number, no_number}
use Rattle.records.specs.Bad.{bad_records}
use Rattle.capture.specs.Call.{bad_counts, bad_lengths, input_tests}
use Rattle.capture.proofs.Accepted.{records_within, flag_lengths, record_tables}
use Rattle.capture.proofs.test_input.Goals as goal

pub returns-then-bad_counts : goal.returns-then-bad_counts
unfolding input_tests
returns-then-bad_counts c = number (applies (sym c.bad_counts.ensures ∙ c.if-bad_counts.true))

pub bad_lengths-requires : goal.bad_lengths-requires
bad_lengths-requires c =
    let passed-1 : bad_counts c.args.n c.args.d ≡ false =
    sym c.bad_counts.ensures ∙ c.if-bad_counts.false in
    records_within c.args.n c.args.d (passed-1)

pub returns-then-bad_lengths : goal.returns-then-bad_lengths
unfolding input_tests
returns-then-bad_lengths c =
    let passed-1 : bad_counts c.args.n c.args.d ≡ false =
    sym c.bad_counts.ensures ∙ c.if-bad_counts.false in
    number (passes (passed-1) (applies (sym c.bad_lengths.ensures ∙ c.if-bad_lengths.true)))

pub bad_records-requires : goal.bad_records-requires
bad_records-requires c =
    let passed-2 : bad_lengths c.args.flags.now c.args.records.now.first.now c.args.records.now.dependency.now c.args.records.now.next.now c.args.n c.args.d ≡ false =
    sym c.bad_lengths.ensures ∙ c.if-bad_lengths.false in
    let passed-1 : bad_counts c.args.n c.args.d ≡ false =
    sym c.bad_counts.ensures ∙ c.if-bad_counts.false in
    let s = c.args in
    record_tables s.flags.now s.records.now.first.now s.records.now.dependency.now s.records.now.next.now s.n s.d (passed-2) (passed-1)

pub returns-then-bad_records : goal.returns-then-bad_records
unfolding input_tests
returns-then-bad_records c =
    let passed-1 : bad_counts c.args.n c.args.d ≡ false =
    sym c.bad_counts.ensures ∙ c.if-bad_counts.false in
    let passed-2 : bad_lengths c.args.flags.now c.args.records.now.first.now c.args.records.now.dependency.now c.args.records.now.next.now c.args.n c.args.d ≡ false =
    sym c.bad_lengths.ensures ∙ c.if-bad_lengths.false in
    number (passes (passed-1) (passes (passed-2)
    (applies (sym c.bad_records.ensures ∙ c.if-bad_records.true))))

pub bad_flags-requires : goal.bad_flags-requires
bad_flags-requires c =
    let passed-2 : bad_lengths c.args.flags.now c.args.records.now.first.now c.args.records.now.dependency.now c.args.records.now.next.now c.args.n c.args.d ≡ false =
    sym c.bad_lengths.ensures ∙ c.if-bad_lengths.false in
    let s = c.args in
    omega (arith, flag_lengths s.flags.now s.records.now.first.now s.records.now.dependency.now s.records.now.next.now s.n s.d (passed-2))

pub returns-then-bad_flags : goal.returns-then-bad_flags
unfolding input_tests
returns-then-bad_flags c =
    let passed-1 : bad_counts c.args.n c.args.d ≡ false =
    sym c.bad_counts.ensures ∙ c.if-bad_counts.false in
    let passed-2 : bad_lengths c.args.flags.now c.args.records.now.first.now c.args.records.now.dependency.now c.args.records.now.next.now c.args.n c.args.d ≡ false =
    sym c.bad_lengths.ensures ∙ c.if-bad_lengths.false in
    let passed-7 : bad_records c.args.records.now.first.now c.args.records.now.dependency.now c.args.records.now.next.now c.args.n c.args.d ≡ false =
    sym c.bad_records.ensures ∙ c.if-bad_records.false in
    number (passes (passed-1) (passes (passed-2)
    (passes (passed-7) (applies (sym c.bad_flags.ensures ∙ c.if-bad_flags.true)))))

pub returns-then-n-from : goal.returns-then-n-from
unfolding input_tests
returns-then-n-from c =
    let passed-1 : bad_counts c.args.n c.args.d ≡ false =
    sym c.bad_counts.ensures ∙ c.if-bad_counts.false in
    let passed-2 : bad_lengths c.args.flags.now c.args.records.now.first.now c.args.records.now.dependency.now c.args.records.now.next.now c.args.n c.args.d ≡ false =
    sym c.bad_lengths.ensures ∙ c.if-bad_lengths.false in
    let passed-7 : bad_records c.args.records.now.first.now c.args.records.now.dependency.now c.args.records.now.next.now c.args.n c.args.d ≡ false =
    sym c.bad_records.ensures ∙ c.if-bad_records.false in
    let s = c.args in
    number (passes (passed-1)
    (passes (passed-2)
    (passes (passed-7)
    (passes (sym c.bad_flags.ensures ∙ c.if-bad_flags.false)
    (applies (le-leb s.n s.from.0 (omega arith)))))))

pub returns : goal.returns
unfolding input_tests
returns c =
    let passed-1 : bad_counts c.args.n c.args.d ≡ false =
    sym c.bad_counts.ensures ∙ c.if-bad_counts.false in
    let passed-2 : bad_lengths c.args.flags.now c.args.records.now.first.now c.args.records.now.dependency.now c.args.records.now.next.now c.args.n c.args.d ≡ false =
    sym c.bad_lengths.ensures ∙ c.if-bad_lengths.false in
    let passed-7 : bad_records c.args.records.now.first.now c.args.records.now.dependency.now c.args.records.now.next.now c.args.n c.args.d ≡ false =
    sym c.bad_records.ensures ∙ c.if-bad_records.false in
    let s = c.args in
    no_number (passes (passed-1)
    (passes (passed-2)
    (passes (passed-7)
    (passes (sym c.bad_flags.ensures ∙ c.if-bad_flags.false)
    (passes (lt-leb s.n s.from.0 (omega arith)) none_applies)))))
