-- Where a call's order ascends, the number that it answers is the lowest of those that apply, and it is accepted just where none applies.
use Prim.Native.Nat.{ℕ, ◌≤◌}
use mathlib.Core.Bool.{Bool, true, false, ◌&&◌, false≢true}
use mathlib.Core.List.{List, [], ◌∷◌}
use mathlib.Core.Path.{◌≡◌, refl, subst}
use native.Mathlib.Nat.{le_refl, le_of_lt}
use borrow.Author.Tests.{ltb-true}
use lib.Dec.{ltb}
use native.Mathlib.Omega.{arith}
use Rattle.refusal.specs.Outcome.{refused, accepted, Test, test, outcome, ascending, Applies, here, there}
use Rattle.refusal.proofs.Calls.{never_both}

pub both : (a b : Bool) → (a && b) ≡ true → (a ≡ true) × (b ≡ true)
both true b e = (refl, e)
both false b e = absurd (false≢true e)

-- every test of a list has a number of at least k
pub data From (k : ℕ) : List Test → Type 0 where
  none : From k []
  more : {n : ℕ} {b : Bool} {ts : List Test} → k ≤ n → From k ts → From k (test n b ∷ ts)

from_le : {j k : ℕ} {ts : List Test} → j ≤ k → From k ts → From j ts
from_le h none = none
from_le h (more p r) = more (native.Mathlib.Nat.le_trans h p) (from_le h r)

-- an ascending order starts at its first number
rises : (n : ℕ) (b : Bool) (ts : List Test) → ascending (test n b ∷ ts) ≡ true → From n (test n b ∷ ts)
unfolding ascending
rises n b [] e = more (le_refl n) none
rises n b (test m c ∷ ts) e =
    let s = both (ltb n m) (ascending (test m c ∷ ts)) e in
    more (le_refl n) (from_le (le_of_lt (ltb-true n m s.0)) (rises m c ts s.1))

at_least : (k m : ℕ) {ts : List Test} → From k ts → Applies m ts → k ≤ m
at_least k m (more p r) (here e t) = subst (λ (x : ℕ). k ≤ x) e p
at_least k m (more p r) (there a) = at_least k m r a
at_least k m none x3 = elim x3 [ ]

-- a condition that applies makes the call refuse
pub refuses : {A : Type 0} (a : A) (n : ℕ) {ts : List Test} → Applies n ts → (m : ℕ) × (outcome ts a ≡ refused m)
unfolding outcome
refuses a n (here {m} {b} {ts} e t) = (m, rw t)
refuses a n (there {t = test m true} {ts} p) = (m, refl)
refuses a n (there {t = test m false} {ts} p) = refuses a n p

not_false : (n m : ℕ) {ts : List Test} → Applies n (test m false ∷ ts) → Applies n ts
not_false n m (here e t) = absurd (false≢true t)
not_false n m (there p) = p

nothing : (n : ℕ) → Applies n [] → ⊥
nothing n p = out [] p refl
  where
    out : (ts : List Test) → Applies n ts → ts ≡ [] → ⊥
    out ts (here e t) q = let z : ◌≡◌ {A = ℕ} 0 1 = cc in omega arith
    out ts (there p) q = let z : ◌≡◌ {A = ℕ} 0 1 = cc in omega arith

tail_ascends : (m : ℕ) (b : Bool) (ts : List Test) → ascending (test m b ∷ ts) ≡ true → ascending ts ≡ true
unfolding ascending
tail_ascends m b [] e = refl
tail_ascends m b (test n c ∷ ts) e = (both (ltb m n) (ascending (test n c ∷ ts)) e).1

-- the number answered is that of a condition that applies, and of those the lowest
pub lowest : {A : Type 0} (a : A) (n : ℕ) (ts : List Test) → ascending ts ≡ true → outcome ts a ≡ refused n → Applies n ts × ((m : ℕ) → Applies m ts → n ≤ m)
unfolding outcome
lowest a n [] up e = absurd (never_both e refl)
lowest a n (test m true ∷ ts) up e =
    let q : m ≡ n = cc in
    (here q refl, λ k p. subst (λ (x : ℕ). x ≤ k) q (at_least m k (rises m true ts up) p))
lowest a n (test m false ∷ ts) up e =
    let r = lowest a n ts (tail_ascends m false ts up) e in
    (there r.0, λ k p. r.1 k (not_false k m p))

-- an accepted call answers its values, and no condition applies
pub accepts : {A : Type 0} (a v : A) (ts : List Test) → outcome ts a ≡ accepted v → (v ≡ a) × ((m : ℕ) → Applies m ts → ⊥)
unfolding outcome
accepts a v [] e = (cc, nothing)
accepts a v (test m true ∷ ts) e = absurd (never_both refl e)
accepts a v (test m false ∷ ts) e =
    let r = accepts a v ts e in
    (r.0, λ k p. r.1 k (not_false k m p))
