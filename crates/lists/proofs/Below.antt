-- Tests over the numbers below a bound: what an answer says of each number, that tests which agree have the same answer,
-- and how a bound splits in two.
use Prim.Native.Nat.{ℕ, zero, suc, ◌+◌, ◌<◌}
use mathlib.Core.Bool.{Bool, true, false, ◌&&◌, ◌||◌, cond, or_assoc, or_comm, and_comm, or-true, and-false, true≢false, false≢true}
use mathlib.Core.Logic.{⊎_elim}
use mathlib.Core.Path.{◌≡◌, refl, sym, ap, ◌∙◌, subst}
use native.Mathlib.Numerals.{add-one}
use native.Mathlib.Nat.{add-zero, add-suc, add_assoc, not-suc-le-zero, eq-or-lt_of_le, le_of_suc-le-suc, lt-suc_self, lt_of_lt_of_le, le_of_lt}
use Rattle.lists.specs.Below.{any_below, all_below, count_below}

-- the two halves of a disjunction that is false, and of a conjunction that is true
pub neither : (a b : Bool) → (a || b) ≡ false → (a ≡ false) × (b ≡ false)
neither true b e = absurd (true≢false e)
neither false b e = (refl, e)

pub both : (a b : Bool) → (a && b) ≡ true → (a ≡ true) × (b ≡ true)
both true b e = (refl, e)
both false b e = absurd (false≢true e)

-- a test that does not hold, and two that hold together
pub refuted : (a : Bool) → (a ≡ true → ⊥) → a ≡ false
refuted true h = absurd (h refl)
refuted false h = refl

pub same_truth : (a b : Bool) → (a ≡ true → b ≡ true) → (b ≡ true → a ≡ true) → a ≡ b
same_truth true b f g = sym (f refl)
same_truth false true f g = g refl
same_truth false false f g = refl

-- what holds of each number below n, and of n, holds of each below suc n
below_suc : (P : ℕ → Type 0) (n : ℕ) → ((k : ℕ) → k < n → P k) → P n → (k : ℕ) → k < suc n → P k
below_suc P n all here k h = ⊎_elim (λ e. subst P (sym e) here) (λ l. all k l) (eq-or-lt_of_le (le_of_suc-le-suc h))

below_weaker : {n k : ℕ} → k < n → k < suc n
below_weaker {n} h = lt_of_lt_of_le h (le_of_lt (lt-suc_self n))

-- ---- some number

pub any_none : (p : ℕ → Bool) (n : ℕ) → ((k : ℕ) → k < n → p k ≡ false) → any_below p n ≡ false
unfolding any_below
any_none p zero h = refl
any_none p (suc n) h = rw (h n (lt-suc_self n)) (any_none p n (λ k l. h k (below_weaker l)))

pub none_of : (p : ℕ → Bool) (n : ℕ) → any_below p n ≡ false → (k : ℕ) → k < n → p k ≡ false
unfolding any_below
none_of p zero e k h = absurd (not-suc-le-zero h)
none_of p (suc n) e k h = let s = neither (p n) (any_below p n) e in below_suc (λ k. p k ≡ false) n (none_of p n s.1) s.0 k h

pub any_some : (p : ℕ → Bool) (n k : ℕ) → k < n → p k ≡ true → any_below p n ≡ true
unfolding any_below
any_some p zero k h e = absurd (not-suc-le-zero h)
any_some p (suc n) k h e =
    ⊎_elim
    (λ q. let t : p n ≡ true = ap p (sym q) ∙ e in rw t)
    (λ l. rw (any_some p n k l e) (or-true (p n)))
    (eq-or-lt_of_le (le_of_suc-le-suc h))

pub some_of : (p : ℕ → Bool) (n : ℕ) → any_below p n ≡ true → (k : ℕ) × (k < n) × (p k ≡ true)
unfolding any_below
some_of p zero e = absurd (false≢true e)
some_of p (suc n) e = go (p n) refl e (some_of p n)
  where
    go : (b : Bool) → p n ≡ b → (b || any_below p n) ≡ true → (any_below p n ≡ true → (k : ℕ) × (k < n) × (p k ≡ true)) → (k : ℕ) × (k < suc n) × (p k ≡ true)
    go true q f rest = (n, lt-suc_self n, q)
    go false q f rest = let s = rest f in (s.0, below_weaker s.1, s.2)

pub any_same : (p q : ℕ → Bool) (n : ℕ) → ((k : ℕ) → k < n → p k ≡ q k) → any_below p n ≡ any_below q n
unfolding any_below
any_same p q zero h = refl
any_same p q (suc n) h = rw (h n (lt-suc_self n), any_same p q n (λ k l. h k (below_weaker l)))

-- one number more, in the order in which a loop meets them
pub any_last : (p : ℕ → Bool) (n : ℕ) → (any_below p n || p n) ≡ any_below p (n + 1)
unfolding any_below
any_last p n = rw (add-one n) (or_comm (any_below p n) (p n))

-- the numbers below m, then the n from m on
pub any_split : (p : ℕ → Bool) (m n : ℕ) → any_below p (m + n) ≡ (any_below (λ k. p (m + k)) n || any_below p m)
unfolding any_below
any_split p m zero = ap (any_below p) (add-zero m)
any_split p m (suc n) =
    ap (any_below p) (add-suc m n)
    ∙ ap (λ (t : Bool). p (m + n) || t) (any_split p m n)
    ∙ sym (or_assoc (p (m + n)) (any_below (λ k. p (m + k)) n) (any_below p m))

-- ---- every number

pub all_of : (p : ℕ → Bool) (n : ℕ) → all_below p n ≡ true → (k : ℕ) → k < n → p k ≡ true
unfolding all_below
all_of p zero e k h = absurd (not-suc-le-zero h)
all_of p (suc n) e k h = let s = both (p n) (all_below p n) e in below_suc (λ k. p k ≡ true) n (all_of p n s.1) s.0 k h

pub all_every : (p : ℕ → Bool) (n : ℕ) → ((k : ℕ) → k < n → p k ≡ true) → all_below p n ≡ true
unfolding all_below
all_every p zero h = refl
all_every p (suc n) h = rw (h n (lt-suc_self n)) (all_every p n (λ k l. h k (below_weaker l)))

pub all_not : (p : ℕ → Bool) (n k : ℕ) → k < n → p k ≡ false → all_below p n ≡ false
unfolding all_below
all_not p zero k h e = absurd (not-suc-le-zero h)
all_not p (suc n) k h e =
    ⊎_elim
    (λ q. let t : p n ≡ false = ap p (sym q) ∙ e in rw t)
    (λ l. rw (all_not p n k l e) (and-false (p n)))
    (eq-or-lt_of_le (le_of_suc-le-suc h))

pub all_last : (p : ℕ → Bool) (n : ℕ) → (all_below p n && p n) ≡ all_below p (n + 1)
unfolding all_below
all_last p n = rw (add-one n) (and_comm (all_below p n) (p n))

-- ---- how many

pub count_same : (p q : ℕ → Bool) (n : ℕ) → ((k : ℕ) → k < n → p k ≡ q k) → count_below p n ≡ count_below q n
unfolding count_below
count_same p q zero h = refl
count_same p q (suc n) h = rw (h n (lt-suc_self n), count_same p q n (λ k l. h k (below_weaker l)))

pub count_split : (p : ℕ → Bool) (m n : ℕ) → count_below p (m + n) ≡ count_below (λ k. p (m + k)) n + count_below p m
unfolding count_below
count_split p m zero = ap (count_below p) (add-zero m) ∙ sym (native.Mathlib.Nat.zero-add (count_below p m))
count_split p m (suc n) =
    ap (count_below p) (add-suc m n)
    ∙ ap (λ (t : ℕ). cond (p (m + n)) 1 0 + t) (count_split p m n)
    ∙ sym (add_assoc (cond (p (m + n)) 1 0) (count_below (λ k. p (m + k)) n) (count_below p m))
