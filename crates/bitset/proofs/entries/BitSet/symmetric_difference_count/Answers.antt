-- The sum of the four counts of ones is the count of the definition, which is at most 256, so no sum wraps.
use mathlib.Core.Path.{sym}
use native.Mathlib.Omega.{arith}
use Rattle.bitset.proofs.Words.{held}
use Rattle.bitset.proofs.Differing.{differing_ones, ones_le}
use Rattle.bitset.proofs.entries.BitSet.symmetric_difference_count.Goals as goal

pub returns : goal.returns
returns c = let s = c.args in sym (differing_ones {a = s.self} {b = s.other} (search held) (search held))

pub overflow_add-result : goal.overflow_add-result
overflow_add-result c = let s = c.args in omega (arith, ones_le {a = s.self} {b = s.other} (search held) (search held))

pub overflow_add-result-2 : goal.overflow_add-result-2
overflow_add-result-2 c = let s = c.args in omega (arith, ones_le {a = s.self} {b = s.other} (search held) (search held))

pub overflow_add-result-3 : goal.overflow_add-result-3
overflow_add-result-3 c = let s = c.args in omega (arith, ones_le {a = s.self} {b = s.other} (search held) (search held))
