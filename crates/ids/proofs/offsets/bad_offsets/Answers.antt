-- `ids::offsets::bad_offsets` meets its contract. The invariant: the test of the offsets from k on gives what the whole test gives.
use Prim.Native.Nat.{◌+◌, ◌<◌}
use mathlib.Core.Bool.{true, false}
use mathlib.Core.Path.{◌≡◌, sym, ◌∙◌}
use native.Mathlib.Omega.{arith}
use lib.ListN.{length, get_or}
use Rattle.std.proofs.Common.{rules}
use Rattle.ids.proofs.OffsetTable.{past_end, last_offset, pair, no_offset}
use Rattle.ids.proofs.offsets.bad_offsets.Goals as goal
use Rattle.ids.proofs.offsets.bad_offsets.Goals.{in-Some+else-bad_pair, in_default}

pub returns-then-end-a : goal.returns-then-end-a
returns-then-end-a c =
    let a = c.args in
    let s = c.loop-k in
    sym (past_end a.longest a.end a.offsets.now s.k (omega arith) c.if-end-a.true) ∙ s.invariant

pub returns-then-bad_pair : goal.returns-then-bad_pair
returns-then-bad_pair c =
    let a = c.args in
    let s = c.loop-k in
    let next : (s.k + 1 < length a.offsets.now) × (c.in-Some.next.now ≡ get_or a.offsets.now (s.k + 1) 0) = search rules in
    let bad = rw next.1 at (sym c.bad_pair.ensures ∙ c.if-bad_pair.true) in
    sym (pair a.longest a.end a.offsets.now s.k true next.0 (omega arith) bad) ∙ s.invariant

pub loop-k-preserved : goal.loop-k-preserved
loop-k-preserved c =
    let a = c.args in
    let s = c.loop-k in
    elim c.match-get.branch [
      | in-Some+else-bad_pair w ↦
          let next : (s.k + 1 < length a.offsets.now) × (w.in-Some.next.now ≡ get_or a.offsets.now (s.k + 1) 0) = search rules in
          let good = rw next.1 at (sym w.bad_pair.ensures ∙ w.if-bad_pair.false) in
          sym (pair a.longest a.end a.offsets.now s.k false next.0 (omega arith) good) ∙ s.invariant
      | in_default w ↦ sym (last_offset a.longest a.end a.offsets.now s.k (omega arith) (search rules) c.if-end-a.false) ∙ s.invariant
    ]

pub returns : goal.returns
returns c =
    let a = c.args in
    let s = c.loop-k in
    sym (no_offset a.longest a.end a.offsets.now s.k c.loop-k-test.false) ∙ s.invariant
