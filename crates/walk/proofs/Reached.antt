-- Laws of what is reached: it grows with the starts and with what is named, it is the union of what the starts reach one by one, it is
-- eligible, and it stays below a bound that no dependency leaves. Marks are determined by what they mark.
use Prim.Native.Nat.{ℕ, ◌<◌}
use mathlib.Core.List.{List}
use mathlib.Core.Logic.{◌↔◌, ◌⊎◌, inl, inr}
use mathlib.Core.Path.{◌≡◌, refl, sym, ◌∙◌, subst}
use lib.ListN.{get_or}
use Rattle.walk.specs.Reached.{Reached, start, further, Marks}

-- more starts, and modules that name more, reach more
pub reached_more : {E : ℕ → Type 0} {N N' : ℕ → ℕ → Type 0} {S S' : ℕ → Type 0} → ((m k : ℕ) → N m k → N' m k) → ((m : ℕ) → S m → S' m) → {m : ℕ} → Reached E N S m → Reached E N' S' m
reached_more names starts (start {m} s e) = start (starts m s) e
reached_more names starts (further {m} {d} r n e) = further (reached_more names starts r) (names m d n) e

-- monotone in the starts
pub more_starts : {E : ℕ → Type 0} {N : ℕ → ℕ → Type 0} {S S' : ℕ → Type 0} → ((m : ℕ) → S m → S' m) → {m : ℕ} → Reached E N S m → Reached E N S' m
more_starts starts r = reached_more (λ m k n. n) starts r

-- what is named matters only as a relation: in which order, how often and by which record is all one
pub same_names : {E : ℕ → Type 0} {N N' : ℕ → ℕ → Type 0} {S : ℕ → Type 0} → ((m k : ℕ) → N m k ↔ N' m k) → (m : ℕ) → Reached E N S m ↔ Reached E N' S m
same_names same m = (λ r. reached_more (λ m k n. (same m k).0 n) (λ m s. s) r, λ r. reached_more (λ m k n. (same m k).1 n) (λ m s. s) r)

-- the closure of several starts is the union of their closures
pub from_one : {E : ℕ → Type 0} {N : ℕ → ℕ → Type 0} {S : ℕ → Type 0} {m : ℕ} → Reached E N S m → (s : ℕ) × S s × Reached E N (λ k. k ≡ s) m
from_one (start {m} s e) = (m, s, start refl e)
from_one (further r n e) = let o = from_one r in (o.0, o.1, further o.2 n e)

pub union_of_starts : {E : ℕ → Type 0} {N : ℕ → ℕ → Type 0} {S : ℕ → Type 0} (m : ℕ) → Reached E N S m ↔ ((s : ℕ) × S s × Reached E N (λ k. k ≡ s) m)
union_of_starts {S = S} m = (from_one, λ o. more_starts (λ k q. subst S (sym q) o.1) o.2)

-- everything reached is eligible
pub reached_eligible : {E : ℕ → Type 0} {N : ℕ → ℕ → Type 0} {S : ℕ → Type 0} {m : ℕ} → Reached E N S m → E m
reached_eligible (start s e) = e
reached_eligible (further r n e) = e

-- everything reached has what the starts have and every dependency passes on
pub reached_all : {E : ℕ → Type 0} {N : ℕ → ℕ → Type 0} {S : ℕ → Type 0} (P : ℕ → Type 0) → ((m : ℕ) → S m → P m) → ((m k : ℕ) → P m → N m k → E k → P k) → {m : ℕ} → Reached E N S m → P m
reached_all P first step (start {m} s e) = first m s
reached_all P first step (further {m} {d} r n e) = step m d (reached_all P first step r) n e

-- marks of the same modules are the same marks
pub same_marks : {P Q : ℕ → Type 0} {n : ℕ} {a b : List ℕ} → ((m : ℕ) → P m ↔ Q m) → Marks P n a → Marks Q n b → (m : ℕ) → m < n → get_or a m 0 ≡ get_or b m 0
same_marks {P} {Q} {n} {a} {b} same x y m h = go (x.each m h) (y.each m h)
  where
    go : ((get_or a m 0 ≡ 1) × P m) ⊎ ((get_or a m 0 ≡ 0) × (P m → ⊥)) → ((get_or b m 0 ≡ 1) × Q m) ⊎ ((get_or b m 0 ≡ 0) × (Q m → ⊥)) → get_or a m 0 ≡ get_or b m 0
    go (inl p) (inl q) = p.0 ∙ sym q.0
    go (inl p) (inr q) = absurd (q.1 ((same m).0 p.1))
    go (inr p) (inl q) = absurd (p.1 ((same m).1 q.1))
    go (inr p) (inr q) = p.0 ∙ sym q.0

-- marks of P are marks of whatever holds of the same modules
pub marks_of : {P Q : ℕ → Type 0} {n : ℕ} {a : List ℕ} → ((m : ℕ) → P m ↔ Q m) → Marks P n a → Marks Q n a
marks_of {P} {Q} {n} {a} same x = record { each = λ m h. go m (x.each m h) }
  where
    go : (m : ℕ) → ((get_or a m 0 ≡ 1) × P m) ⊎ ((get_or a m 0 ≡ 0) × (P m → ⊥)) → ((get_or a m 0 ≡ 1) × Q m) ⊎ ((get_or a m 0 ≡ 0) × (Q m → ⊥))
    go m (inl p) = inl (p.0, (same m).0 p.1)
    go m (inr p) = inr (p.0, λ q. p.1 ((same m).1 q))
