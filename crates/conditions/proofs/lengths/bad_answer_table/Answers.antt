-- `conditions::lengths::bad_answer_table` meets its contract; with at most 64 groups and 4,096 modules nothing wraps.
use Prim.Native.Nat.{◌*◌, ◌≤◌}
use native.Mathlib.Nat.{mul-le-mul}
use native.Mathlib.Omega.{arith}
use Rattle.conditions.proofs.lengths.bad_answer_table.Goals as goal

pub overflow_mul-result : goal.overflow_mul-result
overflow_mul-result c =
    let h : c.args.g * c.args.n ≤ 64 * 4096 = mul-le-mul c.requires.1 c.requires.0 in omega arith

pub returns : goal.returns
returns c = λ b modules groups answers. rw (modules, groups, answers)
