-- A loop that keeps the elements that pass: what one more element adds, of a list or of the numbers from 0 on.
use Prim.Native.Nat.{ℕ, ◌+◌, ◌<◌}
use mathlib.Core.Bool.{Bool, true, false}
use mathlib.Core.List.{List, [], ◌∷◌, ◌++◌, append-nil}
use mathlib.Core.Path.{◌≡◌, ap, ◌∙◌}
use native.Mathlib.Nat.{zero-add}
use native.Mathlib.Numerals.{add-one}
use lib.ListN.{length, get_or, take}
use lib.Seq.{take-suc}
use Rattle.lists.specs.Keep.{keep, keep_head}
use Rattle.lists.specs.Range.{range}
use Rattle.lists.proofs.Keep.{keep_append}
use Rattle.lists.proofs.Range.{range_snoc}

module _ {A : Type 0} (p : A → Bool) where
  pub keep_snoc : (l : List A) (x : A) → keep p (l ++ (x ∷ [])) ≡ keep p l ++ keep_head (p x) x []
  unfolding keep
  keep_snoc l x = keep_append p l (x ∷ [])

  -- the next element passes, or not
  snoc_in : (l : List A) (x : A) → p x ≡ true → keep p (l ++ (x ∷ [])) ≡ keep p l ++ (x ∷ [])
  unfolding keep_head
  snoc_in l x e = keep_snoc l x ∙ rw e

  snoc_out : (l : List A) (x : A) → p x ≡ false → keep p (l ++ (x ∷ [])) ≡ keep p l
  unfolding keep_head
  snoc_out l x e = keep_snoc l x ∙ rw e (append-nil (keep p l))

  next : (l : List A) (i : ℕ) (d : A) → i < length l → take (i + 1) l ≡ take i l ++ (get_or l i d ∷ [])
  next l i d h = rw (add-one i) (take-suc l i d h)

  pub keep_take_in : (l : List A) (i : ℕ) (d : A) → i < length l → p (get_or l i d) ≡ true
      → keep p (take (i + 1) l) ≡ keep p (take i l) ++ (get_or l i d ∷ [])
  keep_take_in l i d h e = ap (keep p) (next l i d h) ∙ snoc_in (take i l) (get_or l i d) e

  pub keep_take_out : (l : List A) (i : ℕ) (d : A) → i < length l → p (get_or l i d) ≡ false → keep p (take (i + 1) l) ≡ keep p (take i l)
  keep_take_out l i d h e = ap (keep p) (next l i d h) ∙ snoc_out (take i l) (get_or l i d) e

numbers : (i : ℕ) → range 0 (i + 1) ≡ range 0 i ++ (i ∷ [])
numbers i = rw (add-one i) (range_snoc 0 i ∙ ap (λ (n : ℕ). range 0 i ++ (n ∷ [])) (zero-add i))

pub keep_range_in : (p : ℕ → Bool) (i : ℕ) → p i ≡ true → keep p (range 0 (i + 1)) ≡ keep p (range 0 i) ++ (i ∷ [])
keep_range_in p i e = ap (keep p) (numbers i) ∙ snoc_in p (range 0 i) i e

pub keep_range_out : (p : ℕ → Bool) (i : ℕ) → p i ≡ false → keep p (range 0 (i + 1)) ≡ keep p (range 0 i)
keep_range_out p i e = ap (keep p) (numbers i) ∙ snoc_out p (range 0 i) i e
