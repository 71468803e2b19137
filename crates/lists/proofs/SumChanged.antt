-- Sums of a table in which rows change: one row, and two rows of which one takes the other's number.
use Prim.Native.Nat.{ℕ, zero, suc, ◌+◌, ◌≤◌, ◌<◌}
use mathlib.Core.List.{List, [], ◌∷◌}
use mathlib.Core.Path.{◌≡◌, sym}
use native.Mathlib.Nat.{not-suc-le-zero, le_of_suc-le-suc}
use native.Mathlib.Omega.{arith}
use lib.ListN.{length, get_or, set, length-set}
use lib.Seq.{get_or-set_other}
use Rattle.lists.specs.Sum.{sum}
use Rattle.lists.proofs.Sum.{sum_take_suc, sum_take_le}

pub sum_set : (l : List ℕ) (i v : ℕ) → i < length l → sum (set l i v) + get_or l i 0 ≡ sum l + v
unfolding sum
sum_set [] i v h = absurd (not-suc-le-zero h)
sum_set (x ∷ l) zero v h = omega arith
sum_set (x ∷ l) (suc i) v h = omega (arith, sum_set l i v (le_of_suc-le-suc h))

pub one_of_sum : (l : List ℕ) (i : ℕ) → i < length l → get_or l i 0 ≤ sum l
one_of_sum l i h = omega (arith, sum_take_suc l i h, sum_take_le (suc i) l)

module _ (l : List ℕ) (s t : ℕ) (hs : s < length l) (ht : t < length l) (apart : t ≡ s → ⊥) where
  pub two_of_sum : get_or l t 0 + get_or l s 0 ≤ sum l
  two_of_sum =
      let away : get_or (set l t 0) s 0 ≡ get_or l s 0 = get_or-set_other l t s 0 0 (λ e. apart (sym e)) in
      let rest : get_or (set l t 0) s 0 ≤ sum (set l t 0) = one_of_sum (set l t 0) s (simp length-set hs) in
      omega (arith, sum_set l t 0 ht)

  -- t takes the number of s, which is left with 0
  pub sum_moved : sum (set (set l t (get_or l t 0 + get_or l s 0)) s 0) ≡ sum l
  sum_moved =
      let both = get_or l t 0 + get_or l s 0 in
      let away : get_or (set l t both) s 0 ≡ get_or l s 0 = get_or-set_other l t s both 0 (λ e. apart (sym e)) in
      omega (arith, sum_set l t both ht, sum_set (set l t both) s 0 (simp length-set hs))
