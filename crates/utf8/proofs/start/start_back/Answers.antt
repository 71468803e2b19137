-- `utf8::start::start_back` meets its contract. The invariant: from the byte before i back the same start is found.
use Prim.Native.Nat.{◌-◌}
use mathlib.Core.Path.{◌≡◌, sym, ◌∙◌}
use native.Mathlib.Omega.{arith}
use Rattle.utf8.specs.Start.{start_back}
use Rattle.utf8.proofs.Starts.{starts_below, starts_above, starts_not, back_here, back_before}
use Rattle.utf8.proofs.start.start_back.Goals as goal
use Rattle.utf8.proofs.start.start_back.Goals.{then-bytes-i-lt128-via-then-bytes-i-lt128, then-bytes-i-lt128-via-else-bytes-i-lt128+then-bytes-i-gt191}

pub returns-then-bytes-i-lt128 : goal.returns-then-bytes-i-lt128
returns-then-bytes-i-lt128 c =
    let bytes = c.args.bytes.now in
    let i = c.loop-i.i - 1 in
    elim c.then-bytes-i-lt128.branch [
      | then-bytes-i-lt128-via-then-bytes-i-lt128 w ↦ sym (back_here bytes i (starts_below bytes i (omega arith))) ∙ c.loop-i.invariant
      | then-bytes-i-lt128-via-else-bytes-i-lt128+then-bytes-i-gt191 w ↦ sym (back_here bytes i (starts_above bytes i (omega arith))) ∙ c.loop-i.invariant
    ]

pub loop-i-preserved : goal.loop-i-preserved
loop-i-preserved c =
    let bytes = c.args.bytes.now in
    let i = c.loop-i.i - 1 in
    sym (back_before bytes i (starts_not bytes i (omega arith) (omega arith))) ∙ c.loop-i.invariant

pub returns : goal.returns
unfolding start_back
returns c =
    let first : c.loop-i.i - 1 ≡ 0 = omega arith in
    rw first at c.loop-i.invariant
