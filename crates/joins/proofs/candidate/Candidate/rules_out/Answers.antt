-- `joins::candidate::Candidate::rules_out` meets its contract: two words differ in no more than 64 entries.
use Prim.Native.Nat.{◌≤◌}
use mathlib.Core.Path.{sym, ◌∙◌}
use native.Mathlib.Omega.{arith}
use borrow.Author.Tests.{le-ltb}
use lib.Bits.{bit_xor, xor_lt}
use Rattle.lists.proofs.Count.{count_le}
use Rattle.bitset.specs.Word.{bit}
use Rattle.bitset.proofs.Bits.{ones_count}
use Rattle.joins.specs.Candidate.{ones_apart}
use Rattle.joins.proofs.candidate.Candidate.rules_out.Goals as goal

pub returns-else-self-lt64 : goal.returns-else-self-lt64
returns-else-self-lt64 c =
    let a = c.args in
    let word = bit_xor a.wanted a.other in
    let few : ones_apart a.wanted a.other ≤ 64 =
    omega (arith, ones_count 64 word (xor_lt 64 a.wanted a.other (omega arith) (omega arith)), count_le (bit word) 64) in
    le-ltb a.self.distance 64 (omega arith) ∙ sym (le-ltb a.self.distance (ones_apart a.wanted a.other) (omega (arith, few)))
