-- Distinct numbers below n are at most n. By lowering n by one: one number at most is n, and the others are below it.
use Prim.Native.Nat.{ℕ, zero, suc, ◌≤◌, ◌<◌}
use mathlib.Core.Bool.{Bool, true, not, false≢true}
use mathlib.Core.List.{List, [], ◌∷◌, Memᴰ}
use mathlib.Core.Logic.{⊎_elim}
use mathlib.Core.Path.{◌≡◌, refl, sym, ap, ◌∙◌}
use native.Mathlib.Nat.{not-suc-le-zero, eq-or-lt_of_le, le_of_suc-le-suc}
use native.Mathlib.Omega.{arith}
use borrow.Author.Tests.{eqb-true, eq-eqb}
use lib.Dec.{eqb}
use lib.ListN.{length}
use Rattle.lists.specs.Keep.{keep}
use Rattle.lists.proofs.KeepLength.{keep_parts}
use Rattle.lists.proofs.Members.{keep_mem}
use Rattle.lists.proofs.Pairs.{pairs_keep}
use Rattle.lists.proofs.Sort.{Pairs, more}

abbrev pub Distinct : List ℕ → Type 0
Distinct l = Pairs (λ x y. x ≡ y → ⊥) l

one_only : (n : ℕ) (l : List ℕ) → Distinct l → ((x : ℕ) → Memᴰ x l → x ≡ n) → length l ≤ 1
one_only n [] d h = omega arith
one_only n (x ∷ []) d h = omega arith
one_only n (x ∷ y ∷ l) (more f r) h = absurd (f y (Memᴰ.head refl) (h x (Memᴰ.head refl) ∙ sym (h y (Memᴰ.tail (Memᴰ.head refl)))))

pub distinct_count : (n : ℕ) (l : List ℕ) → Distinct l → ((x : ℕ) → Memᴰ x l → x < n) → length l ≤ n
distinct_count zero [] d h = omega arith
distinct_count zero (x ∷ l) d h = absurd (not-suc-le-zero (h x (Memᴰ.head refl)))
distinct_count (suc n) l d h =
    let top : ℕ → Bool = λ x. eqb x n in
    let under : ℕ → Bool = λ x. not (eqb x n) in
    let one = one_only n (keep top l) (pairs_keep top d) (λ x m. eqb-true x n (keep_mem top l x m).1) in
    let others = distinct_count n (keep under l) (pairs_keep under d) (λ x m. let s = keep_mem under l x m in lower x (h x s.0) s.1) in
    omega (arith, keep_parts top under l (λ x m. refl))
  where
    lower : (x : ℕ) → x < suc n → not (eqb x n) ≡ true → x < n
    lower x l e =
        ⊎_elim (λ q. absurd (false≢true (sym (ap not (eq-eqb x n q)) ∙ e))) (λ u. u) (eq-or-lt_of_le (le_of_suc-le-suc l))
