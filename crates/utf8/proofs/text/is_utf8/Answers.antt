-- `utf8::text::is_utf8` meets its contract. The invariant: from the state on, the bytes that are left are text as the whole bytes are.
use Prim.Native.Nat.{◌+◌}
use mathlib.Core.List.{[]}
use mathlib.Core.Path.{◌≡◌, refl, sym, ◌∙◌, ap}
use native.Mathlib.Omega.{arith}
use lib.ListN.{drop, drop_of_length-le}
use Rattle.utf8.specs.Utf8.{utf8}
use Rattle.utf8.specs.States.{due_in, goes_from}
use Rattle.utf8.proofs.StateLaws.{goes_nowhere, goes_ended, goes_next}
use Rattle.utf8.proofs.text.is_utf8.Goals as goal

pub loop-byte-init : goal.loop-byte-init
unfolding goes_from due_in utf8
loop-byte-init c = refl

pub next_state-state-requires : goal.next_state-state-requires
next_state-state-requires c = tt

pub returns-then-state-ge-NO_TEXT : goal.returns-then-state-ge-NO_TEXT
returns-then-state-ge-NO_TEXT c =
    let a = c.args in
    let s = c.loop-byte in
    let r = c.next_state-state in
    sym (goes_nowhere r.result (drop (s.byte-index + 1) a.bytes.now) c.if-state-ge-NO_TEXT.true)
    ∙ goes_next a.bytes.now s.byte-index s.state r.result (omega arith) r.ensures
    ∙ s.invariant

pub loop-byte-preserved : goal.loop-byte-preserved
loop-byte-preserved c =
    let a = c.args in
    let s = c.loop-byte in
    let r = c.next_state-state in
    goes_next a.bytes.now s.byte-index s.state r.result (omega arith) r.ensures ∙ s.invariant

pub returns : goal.returns
returns c =
    let a = c.args in
    let s = c.loop-byte in
    let done : drop s.byte-index a.bytes.now ≡ [] = drop_of_length-le a.bytes.now c.loop-byte-test.false in
    sym (goes_ended s.state) ∙ ap (goes_from s.state) (sym done) ∙ s.invariant
