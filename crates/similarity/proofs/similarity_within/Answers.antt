-- `similarity::similarity_within` meets its contract: each pair adds its score, of at most 10, and past the common length nothing is left.
use Prim.Native.Nat.{◌≤◌}
use native.Mathlib.Nat.{zero-add}
use native.Mathlib.Omega.{arith}
use Rattle.similarity.proofs.SimilarityLaws.{byte_score_le, from_done, from_pair}
use Rattle.similarity.proofs.similarity_within.Goals as goal

pub loop-i-init : goal.loop-i-init
loop-i-init c = (zero-add _, omega arith)

pub overflow_cast-score : goal.overflow_cast-score
overflow_cast-score c =
    let le : c.byte_score.result ≤ 10 = rw c.byte_score.ensures (byte_score_le _ _) in
    omega arith

pub overflow_add-score : goal.overflow_add-score
overflow_add-score c =
    let le : c.byte_score.result ≤ 10 = rw c.byte_score.ensures (byte_score_le _ _) in
    omega arith

pub loop-i-preserved : goal.loop-i-preserved
loop-i-preserved c =
    let a = c.args in
    let s = c.loop-i in
    let le : c.byte_score.result ≤ 10 = rw c.byte_score.ensures (byte_score_le _ _) in
    let step = from_pair a.lhs.now a.rhs.now s.i (omega arith) (omega arith) in
    (omega (arith, c.byte_score.ensures, step, s.invariant.0), omega arith)

pub returns : goal.returns
returns c =
    let a = c.args in
    let s = c.loop-i in
    omega (arith, from_done a.lhs.now a.rhs.now s.i (omega arith), s.invariant.0)
