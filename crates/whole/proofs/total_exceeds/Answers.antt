-- `whole::total_exceeds` answers whether the sizes add to more than 2^53. The loop's invariant: `total` is the sum of the sizes passed,
-- and at most 2^53. A part of the sizes that adds to more is enough, since the others only add to it.
use Prim.Native.Nat.{ℕ, suc, ◌+◌, ◌-◌, ◌≤◌, ◌<◌}
use native.Mathlib.Numerals.{add-one}
use native.Mathlib.Omega.{arith}
use mathlib.Core.Path.{◌≡◌, refl, sym, ap, ◌∙◌}
use mathlib.Core.Bool.{true, false}
use mathlib.Core.List.{List}
use borrow.Author.Tests.{lt-ltb, le-ltb}
use lib.ListN.{length, get_or, take}
use lib.Seq.{take_all}
use Rattle.lists.specs.Sum.{sum}
use Rattle.whole.specs.Total.{total_limit, total_exceeds}
use Rattle.lists.proofs.Sum.{sum_take_suc, sum_take_le}
use Rattle.whole.proofs.total_exceeds.Goals as goal

-- the size at i passes what is left below the limit
passes : (l : List ℕ) (i t : ℕ) → i < length l → t ≡ sum (take i l) → total_limit - t < get_or l i 0 → true ≡ total_exceeds l
unfolding total_exceeds
passes l i t h e p = sym (lt-ltb total_limit (sum l) (omega (arith, sum_take_suc l i h, sum_take_le (suc i) l)))

-- no size did
within : (l : List ℕ) (i t : ℕ) → length l ≤ i → t ≡ sum (take i l) → t ≤ total_limit → false ≡ total_exceeds l
unfolding total_exceeds
within l i t h e p = sym (le-ltb total_limit (sum l) (omega (arith, ap sum (take_all i l h))))

one_more : (l : List ℕ) (i t : ℕ) → i < length l → t ≡ sum (take i l) → t + get_or l i 0 ≡ sum (take (i + 1) l)
one_more l i t h e = ap (λ n. n + get_or l i 0) e ∙ sym (sum_take_suc l i h) ∙ ap (λ n. sum (take n l)) (sym (add-one i))

pub loop-size-init : goal.loop-size-init
unfolding sum
loop-size-init c = (refl, omega arith)

pub returns-then-total-size : goal.returns-then-total-size
returns-then-total-size c = passes _ c.loop-size.size-index _ (omega arith) c.loop-size.invariant.0 (omega arith)

pub loop-size-preserved : goal.loop-size-preserved
loop-size-preserved c = (
  one_more c.args.sizes.now c.loop-size.size-index _ (omega arith) c.loop-size.invariant.0,
  omega arith,
)

pub returns : goal.returns
returns c = within _ c.loop-size.size-index _ (omega arith) c.loop-size.invariant.0 (omega arith)
