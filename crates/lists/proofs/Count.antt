-- Counting below a bound: one number more that passes, none that does, and that there is room where a number does not pass.
use Prim.Native.Nat.{ℕ, zero, suc, ◌+◌, ◌≤◌, ◌<◌}
use mathlib.Core.Bool.{Bool, true, false, cond}
use mathlib.Core.Logic.{⊎_elim}
use mathlib.Core.Path.{◌≡◌, refl, sym, ap, ◌∙◌}
use native.Mathlib.Nat.{not-suc-le-zero, eq-or-lt_of_le, le_of_suc-le-suc, lt-suc_self}
use native.Mathlib.Omega.{arith}
use Rattle.lists.specs.Below.{count_below}
use Rattle.lists.proofs.Below.{count_same}

below_or_last : (k n : ℕ) → k < suc n → (P : Type 0) → (k ≡ n → P) → (k < n → P) → P
below_or_last k n h P last below = ⊎_elim last below (eq-or-lt_of_le (le_of_suc-le-suc h))

pub one_at_most : (b : Bool) → cond b 1 0 ≤ 1
one_at_most true = omega arith
one_at_most false = omega arith

pub count_none : (p : ℕ → Bool) (n : ℕ) → ((k : ℕ) → k < n → p k ≡ false) → count_below p n ≡ 0
unfolding count_below
count_none p zero h = refl
count_none p (suc n) h =
    let rest : count_below p n ≡ 0 = count_none p n (λ k l. h k (omega arith)) in
    rw (h n (lt-suc_self n)) (omega arith)

pub count_le : (p : ℕ → Bool) (n : ℕ) → count_below p n ≤ n
unfolding count_below
count_le p zero = omega arith
count_le p (suc n) = omega (arith, one_at_most (p n), count_le p n)

pub count_room : (p : ℕ → Bool) (n k : ℕ) → k < n → p k ≡ false → count_below p n < n
unfolding count_below
count_room p zero k h e = absurd (not-suc-le-zero h)
count_room p (suc n) k h e =
    below_or_last k n h (cond (p n) 1 0 + count_below p n < suc n)
    (λ q. let f : p n ≡ false = ap p (sym q) ∙ e in rw f (omega (arith, count_le p n)))
    (λ l. omega (arith, one_at_most (p n), count_room p n k l e))

-- p and q agree but at k, which only q passes
pub count_more : (p q : ℕ → Bool) (n k : ℕ) → k < n → p k ≡ false → q k ≡ true → ((j : ℕ) → (j ≡ k → ⊥) → q j ≡ p j) → count_below q n ≡ suc (count_below p n)
unfolding count_below
count_more p q zero k h e f same = absurd (not-suc-le-zero h)
count_more p q (suc n) k h e f same =
    below_or_last k n h (cond (q n) 1 0 + count_below q n ≡ suc (cond (p n) 1 0 + count_below p n))
    (λ z.
    let pn : p n ≡ false = ap p (sym z) ∙ e in
    let qn : q n ≡ true = ap q (sym z) ∙ f in
    let rest : count_below q n ≡ count_below p n = count_same q p n (λ j l. same j (omega arith)) in
    rw (pn, qn) (omega arith))
    (λ l.
    let here : q n ≡ p n = same n (omega arith) in
    let rest : count_below q n ≡ suc (count_below p n) = count_more p q n k l e f same in
    rw here (omega arith))
