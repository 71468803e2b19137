-- `conditions::areas::scratch_short` meets its contract; with at most 262,144 pairs and 4,096 modules nothing wraps.
use Prim.Native.Nat.{◌*◌, ◌≤◌}
use mathlib.Core.Path.{sym}
use native.Mathlib.Nat.{mul-le-mul}
use native.Mathlib.Omega.{arith}
use Rattle.grouping.specs.Conditions.{scratch_need, bad_scratch}
use Rattle.conditions.proofs.areas.scratch_short.Goals as goal

pub overflow_mul-result : goal.overflow_mul-result
overflow_mul-result c =
    let h : c.args.count * c.args.n ≤ 262144 * 4096 = mul-le-mul c.requires.0 c.requires.1 in omega arith

pub overflow_add-result : goal.overflow_add-result
overflow_add-result c =
    let h : c.args.count * c.args.n ≤ 262144 * 4096 = mul-le-mul c.requires.0 c.requires.1 in omega arith

pub returns : goal.returns
unfolding scratch_need bad_scratch
returns c = λ b area count need words. rw (sym need, sym count, sym words)
