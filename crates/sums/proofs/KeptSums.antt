-- Sums over the numbers below a bound that pass a test: one number more, and that they only grow; and the total of refusal 6 as such a sum.
use Prim.Native.Nat.{ℕ, zero, suc, ◌+◌, ◌-◌, ◌≤◌, ◌<◌}
use mathlib.Core.Bool.{Bool, true, false, cond}
use mathlib.Core.List.{List, [], ◌∷◌, ◌++◌, map, map-append}
use mathlib.Core.Logic.{⊎_elim}
use mathlib.Core.Path.{◌≡◌, refl, sym, ap, ◌∙◌}
use native.Mathlib.Nat.{zero-add, add-zero, eq-or-lt_of_le, le_of_suc-le-suc}
use native.Mathlib.Omega.{arith}
use borrow.Author.Tests.{lt-ltb, le-ltb}
use lib.ListN.{length, get_or}
use Rattle.lists.specs.Keep.{keep, keep_head}
use Rattle.lists.specs.Range.{range}
use Rattle.lists.specs.Sum.{sum}
use Rattle.lists.proofs.Keep.{keep_append}
use Rattle.lists.proofs.Range.{range_snoc}
use Rattle.lists.proofs.Sum.{sum_append}
use Rattle.whole.specs.Total.{total_limit, total_exceeds}
use Rattle.flags.specs.Flags.{listed}
use Rattle.grouping.specs.Given.{Given}
use Rattle.grouping.specs.Conditions.{bad_total}
use Rattle.sums.specs.HandsIn.{HandsSizes}

module _ (p : ℕ → Bool) (f : ℕ → ℕ) where
  -- the sum of f over the numbers below i that pass
  unfoldable pub kept_sum : ℕ → ℕ
  kept_sum i = sum (map f (keep p (range 0 i)))

  one_kept : (m : ℕ) → sum (map f (keep p (m ∷ []))) ≡ cond (p m) (f m) 0
  unfolding keep keep_head sum
  one_kept m = go (p m)
    where
      go : (b : Bool) → sum (map f (keep_head b m [])) ≡ cond b (f m) 0
      go true = add-zero (f m)
      go false = refl

  pub kept_none : kept_sum 0 ≡ 0
  unfolding kept_sum keep range sum
  kept_none = refl

  pub kept_more : (i : ℕ) → kept_sum (suc i) ≡ kept_sum i + cond (p i) (f i) 0
  unfolding kept_sum
  kept_more i =
      ap (λ (l : List ℕ). sum (map f (keep p l))) (range_snoc 0 i ∙ ap (λ (m : ℕ). range 0 i ++ (m ∷ [])) (zero-add i))
      ∙ ap (λ (l : List ℕ). sum (map f l)) (keep_append p (range 0 i) (i ∷ []))
      ∙ ap sum (map-append f (keep p (range 0 i)) (keep p (i ∷ [])))
      ∙ sum_append (map f (keep p (range 0 i))) (map f (keep p (i ∷ [])))
      ∙ ap (λ (n : ℕ). sum (map f (keep p (range 0 i))) + n) (one_kept i)

  pub kept_grows : (i n : ℕ) → i ≤ n → kept_sum i ≤ kept_sum n
  kept_grows i zero h = let e : i ≡ 0 = omega arith in omega (arith, ap kept_sum e)
  kept_grows i (suc n) h =
      ⊎_elim
      (λ e. omega (arith, ap kept_sum e))
      (λ l. omega (arith, kept_grows i n (le_of_suc-le-suc l), kept_more n))
      (eq-or-lt_of_le h)

-- ---- refusal 6

-- the sizes of the normal included modules among the first i, added
abbrev pub total_of : List ℕ → List ℕ → ℕ → ℕ
total_of flags sizes i = kept_sum (λ m. listed (get_or flags m 0)) (λ m. get_or sizes m 0) i

module _ (b : Given) (flags sizes : List ℕ) (h : HandsSizes b flags sizes) where
  pub passes_total : (i t : ℕ) → i < length sizes → t ≡ total_of flags sizes i → total_limit - t < cond (listed (get_or flags i 0)) (get_or sizes i 0) 0
      → t ≤ total_limit
      → true ≡ bad_total b
  unfolding bad_total total_exceeds kept_sum
  passes_total i t below e more low =
      rw (h.module_count, h.flag_bytes, h.sizes_of)
      (sym (lt-ltb total_limit (total_of flags sizes (length sizes))
      (omega (
        arith,
        kept_more (λ m. listed (get_or flags m 0)) (λ m. get_or sizes m 0) i,
        kept_grows (λ m. listed (get_or flags m 0)) (λ m. get_or sizes m 0) (suc i) (length sizes) below,
      ))))

  pub within_total : (i t : ℕ) → i ≡ length sizes → t ≡ total_of flags sizes i → t ≤ total_limit → false ≡ bad_total b
  unfolding bad_total total_exceeds kept_sum
  within_total i t all e low =
      rw (h.module_count, h.flag_bytes, h.sizes_of)
      (sym (le-ltb total_limit (total_of flags sizes (length sizes)) (omega (arith, ap (total_of flags sizes) all))))
