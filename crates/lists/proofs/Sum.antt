-- The sum of a list: of two lists joined, of the parts that a list is cut into, of the same numbers in another order, and of a part.
use Prim.Native.Nat.{ℕ, suc, ◌+◌, ◌≤◌, ◌<◌}
use native.Mathlib.Nat.{zero-add, add-zero, add_assoc, add_left_comm, ℕ_set}
use native.Mathlib.Omega.{arith}
use mathlib.Core.Bool.{Bool, true, false}
use mathlib.Core.Path.{◌≡◌, refl, sym, ap, ap₂, ◌∙◌}
use mathlib.Core.Logic.{∥∥₁_elim}
use mathlib.Core.List.{List, [], ◌∷◌, ◌++◌, map, Perm, Permᴰ}
use lib.ListN.{length, get_or, take, drop, take-append-drop}
use lib.Seq.{take-suc}
use Rattle.lists.specs.Keep.{keep, keep_head}
use Rattle.lists.specs.Sum.{sum}

pub sum_append : (a b : List ℕ) → sum (a ++ b) ≡ sum a + sum b
unfolding sum
sum_append [] b = sym (zero-add (sum b))
sum_append (x ∷ a) b = ap (λ n. x + n) (sum_append a b) ∙ sym (add_assoc x (sum a) (sum b))

pub sum_snoc : (l : List ℕ) (x : ℕ) → sum (l ++ (x ∷ [])) ≡ sum l + x
unfolding sum
sum_snoc l x = sum_append l (x ∷ []) ∙ ap (λ n. sum l + n) (add-zero x)

-- one more number of the list
pub sum_take_suc : (l : List ℕ) (i : ℕ) → i < length l → sum (take (suc i) l) ≡ sum (take i l) + get_or l i 0
sum_take_suc l i h = ap sum (take-suc l i 0 h) ∙ sum_snoc (take i l) (get_or l i 0)

-- ---- a list cut in two
pub sum_split : (i : ℕ) (l : List ℕ) → sum (take i l) + sum (drop i l) ≡ sum l
sum_split i l = sym (sum_append (take i l) (drop i l)) ∙ ap sum (take-append-drop i l)

pub sum_take_le : (i : ℕ) (l : List ℕ) → sum (take i l) ≤ sum l
sum_take_le i l = omega (arith, sum_split i l)

-- ---- another order
perm_steps : {l l' : List ℕ} → Permᴰ l l' → sum l ≡ sum l'
unfolding sum
perm_steps Permᴰ.nil = refl
perm_steps (Permᴰ.cons e d) = ap₂ ◌+◌ e (perm_steps d)
perm_steps (Permᴰ.swap {a = a} {b = b} {a' = a'} {b' = b'} {l = l} p q) =
    add_left_comm a b (sum l) ∙ ap₂ (λ x y. x + (y + sum l)) q p
perm_steps (Permᴰ.trans d e) = perm_steps d ∙ perm_steps e

pub sum_perm : {l l' : List ℕ} → Perm l l' → sum l ≡ sum l'
sum_perm {l} {l'} p = ∥∥₁_elim p (ℕ_set (sum l) (sum l')) perm_steps

-- ---- a part of a list

-- what is kept adds to no more than all
pub keep_sum : {A : Type 0} (f : A → ℕ) (p : A → Bool) (l : List A) → sum (map f (keep p l)) ≤ sum (map f l)
unfolding keep keep_head sum
keep_sum f p [] = omega arith
keep_sum {A} f p (x ∷ l) = go (p x) (keep_sum f p l)
  where
    go : (b : Bool) → sum (map f (keep p l)) ≤ sum (map f l) → sum (map f (keep_head b x (keep p l))) ≤ f x + sum (map f l)
    go true h = omega arith
    go false h = omega arith
