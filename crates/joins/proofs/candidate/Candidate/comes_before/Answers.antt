-- Each way out is one case of the order.
use borrow.Author.Tests.{lt-ltb, le-ltb}
use native.Mathlib.Omega.{arith}
use Rattle.joins.specs.Candidate.{comes_first}
use Rattle.joins.proofs.candidate.Candidate.comes_before.Goals as goal

pub returns-then-self-other : goal.returns-then-self-other
unfolding comes_first
returns-then-self-other c =
    let a = c.args in rw (lt-ltb a.self.distance a.other.distance (omega arith))

pub returns-then-other-self : goal.returns-then-other-self
unfolding comes_first
returns-then-other-self c =
    let a = c.args in
    rw (le-ltb a.self.distance a.other.distance (omega arith), lt-ltb a.other.distance a.self.distance (omega arith))

pub returns-then-self-other-2 : goal.returns-then-self-other-2
unfolding comes_first
returns-then-self-other-2 c =
    let a = c.args in
    rw (le-ltb a.self.distance a.other.distance (omega arith), le-ltb a.other.distance a.self.distance (omega arith), c.if-self-other-2.true)

pub returns-then-other-self-2 : goal.returns-then-other-self-2
unfolding comes_first
returns-then-other-self-2 c =
    let a = c.args in
    rw (le-ltb a.self.distance a.other.distance (omega arith), le-ltb a.other.distance a.self.distance (omega arith), c.if-self-other-2.false, c.if-other-self-2.true)

pub returns : goal.returns
unfolding comes_first
returns c =
    let a = c.args in
    rw (le-ltb a.self.distance a.other.distance (omega arith), le-ltb a.other.distance a.self.distance (omega arith), c.if-self-other-2.false, c.if-other-self-2.false)
