-- `records::bad_records` meets its contract: the first of the three tests that holds decides. The third is made only where the first two do not
-- hold, and only where some record does not ascend: else no chain is bad.
use mathlib.Core.Bool.{false, true≢false}
use mathlib.Core.Path.{◌≡◌, sym, ◌∙◌}
use native.Mathlib.Omega.{arith}
use Rattle.records.specs.Bad.{bad_first, bad_record, bad_records}
use Rattle.records.proofs.Ascending.{none_bad}
use Rattle.records.proofs.Table.{first_in, next_in}
use Rattle.records.proofs.bad_records.Goals as goal
use Rattle.records.proofs.bad_records.Goals.{then-bad_first, else-bad_first}

pub any_bad_chain-requires : goal.any_bad_chain-requires
any_bad_chain-requires c =
    let s = c.args in
    elim c.if-bad_first.branch [
      | then-bad_first w ↦ absurd (true≢false (sym w.if-bad_first.true ∙ sym w.value-is ∙ c.if-bad_record.false))
      | else-bad_first w ↦
          let e : bad_first s.records.now.first.now s.n s.d ≡ false = sym c.bad_first.ensures ∙ w.if-bad_first.false in
          let f : bad_record s.records.now.dependency.now s.records.now.next.now s.n s.d ≡ false = sym w.bad_record.ensures ∙ sym w.value-is ∙ c.if-bad_record.false in
          record {
            few = c.requires.few;
            firsts = omega (arith, c.requires.firsts);
            nexts = c.requires.nexts;
            first_in = first_in s.records.now.first.now s.n s.d e;
            next_in = next_in s.records.now.dependency.now s.records.now.next.now s.n s.d f;
          }
    ]

pub returns-then-bad_record : goal.returns-then-bad_record
unfolding bad_records
returns-then-bad_record c =
    elim c.if-bad_first.branch [
      | then-bad_first w ↦ rw (c.if-bad_record.true, sym c.bad_first.ensures ∙ w.if-bad_first.true)
      | else-bad_first w ↦
          rw (c.if-bad_record.true, sym c.bad_first.ensures ∙ w.if-bad_first.false, sym w.bad_record.ensures ∙ sym w.value-is ∙ c.if-bad_record.true)
    ]

pub returns-then-not-all_ascend : goal.returns-then-not-all_ascend
unfolding bad_records
returns-then-not-all_ascend c =
    elim c.if-bad_first.branch [
      | then-bad_first w ↦ absurd (true≢false (sym w.if-bad_first.true ∙ sym w.value-is ∙ c.if-bad_record.false))
      | else-bad_first w ↦
          rw (sym c.bad_first.ensures ∙ w.if-bad_first.false, sym w.bad_record.ensures ∙ sym w.value-is ∙ c.if-bad_record.false) c.any_bad_chain.ensures
    ]

pub returns-else-not-all_ascend : goal.returns-else-not-all_ascend
unfolding bad_records
returns-else-not-all_ascend c =
    let s = c.args in
    elim c.if-bad_first.branch [
      | then-bad_first w ↦ absurd (true≢false (sym w.if-bad_first.true ∙ sym w.value-is ∙ c.if-bad_record.false))
      | else-bad_first w ↦
          let e : bad_first s.records.now.first.now s.n s.d ≡ false = sym c.bad_first.ensures ∙ w.if-bad_first.false in
          let f : bad_record s.records.now.dependency.now s.records.now.next.now s.n s.d ≡ false = sym w.bad_record.ensures ∙ sym w.value-is ∙ c.if-bad_record.false in
          let stays = next_in s.records.now.dependency.now s.records.now.next.now s.n s.d f in
          let none = none_bad s.records.now.next.now s.d (sym c.all_ascend.ensures ∙ c.if-not-all_ascend.false) stays s.records.now.first.now s.n (first_in s.records.now.first.now s.n s.d e) in
          rw (c.if-not-all_ascend.false, e, f, none)
    ]
