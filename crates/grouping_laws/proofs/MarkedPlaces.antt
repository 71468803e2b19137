-- Marks by place: what stands among the marked places, and marks to which some were added. Those are as many as before, and what was marked
-- still is; either nothing was added, or fewer are left to mark.
use Prim.Native.Nat.{ℕ, zero, suc, ◌+◌, ◌≤◌, ◌<◌, suc-le-suc}
use mathlib.Core.Bool.{Bool, true, false, false≢true}
use mathlib.Core.List.Memᴰ
use mathlib.Core.List.{List, [], ◌∷◌, Memᴰ}
use mathlib.Core.Logic.{◌⊎◌, inl, inr, ⊎_elim}
use mathlib.Core.Path.{◌≡◌, refl, sym, ap, ◌∙◌}
use native.Mathlib.Nat.{add-zero, add-suc, suc-add, zero-lt-suc}
use native.Mathlib.Omega.{arith}
use lib.ListN.{length, get_or}
use Rattle.lists.specs.Keep.{keep_head}
use Rattle.grouping.specs.Sets.{marked_from}

-- place q is marked
abbrev pub Marked : List Bool → ℕ → Type 0
Marked marks q = get_or marks q false ≡ true

pub marked_below : (marks : List Bool) (q : ℕ) → Marked marks q → q < length marks
marked_below [] q e = absurd (false≢true e)
marked_below (a ∷ marks) zero e = zero-lt-suc (length marks)
marked_below (a ∷ marks) (suc q) e = suc-le-suc (marked_below marks q e)

pub marked_mem : (p : ℕ) (marks : List Bool) (x : ℕ) → Memᴰ x (marked_from p marks) → (i : ℕ) × (p + i ≡ x) × Marked marks i
unfolding marked_from keep_head
marked_mem p [] x m = absurd (Memᴰ.not-nil m)
marked_mem p (a ∷ marks) x m = go a m (marked_mem (suc p) marks x)
  where
    go : (a : Bool) → Memᴰ x (keep_head a p (marked_from (suc p) marks)) → (Memᴰ x (marked_from (suc p) marks) → (i : ℕ) × (suc p + i ≡ x) × Marked marks i)
        → (i : ℕ) × (p + i ≡ x) × Marked (a ∷ marks) i
    go true m rest = ⊎_elim (λ e. (zero, add-zero p ∙ sym e, refl)) (λ t. let s = rest t in (suc s.0, omega (arith, s.1), s.2)) (Memᴰ.cases_cons m)
    go false m rest = let s = rest m in (suc s.0, omega (arith, s.1), s.2)

pub mem_marked : (p : ℕ) (marks : List Bool) (i : ℕ) → Marked marks i → Memᴰ (p + i) (marked_from p marks)
unfolding marked_from keep_head
mem_marked p [] i e = absurd (false≢true e)
mem_marked p (true ∷ marks) zero e = Memᴰ.head (add-zero p)
mem_marked p (false ∷ marks) zero e = absurd (false≢true e)
mem_marked p (a ∷ marks) (suc i) e = go a (Memᴰ.cast (add-suc p i ∙ sym (suc-add p i)) (mem_marked (suc p) marks i e))
  where
    go : (a : Bool) → Memᴰ (p + suc i) (marked_from (suc p) marks) → Memᴰ (p + suc i) (keep_head a p (marked_from (suc p) marks))
    go true t = Memᴰ.tail t
    go false t = t

-- ---- marks that grow

pub record Grown (l r : List Bool) : Type 0 where
  pub same_length : length r ≡ length l
  pub kept : (q : ℕ) → Marked l q → Marked r q

pub grown_same : (l : List Bool) → Grown l l
grown_same l = record { same_length = refl; kept = λ q e. e }

pub grown_more : {l m r : List Bool} → Grown l m → Grown m r → Grown l r
grown_more g h = record { same_length = h.same_length ∙ g.same_length; kept = λ q e. h.kept q (g.kept q e) }

-- how many places are not marked
pub unmarked : List Bool → ℕ
unmarked [] = 0
unmarked (true ∷ l) = unmarked l
unmarked (false ∷ l) = suc (unmarked l)

pub unmarked_le : (l : List Bool) → unmarked l ≤ length l
unfolding unmarked
unmarked_le [] = omega arith
unmarked_le (true ∷ l) = omega (arith, unmarked_le l)
unmarked_le (false ∷ l) = omega (arith, unmarked_le l)

pub grown_less : (l r : List Bool) → Grown l r → (l ≡ r) ⊎ (unmarked r < unmarked l)
unfolding unmarked
grown_less [] [] g = inl refl
grown_less [] (b ∷ r) g = absurd (omega (arith, g.same_length))
grown_less (a ∷ l) [] g = absurd (omega (arith, g.same_length))
grown_less (a ∷ l) (b ∷ r) g = go a b (g.kept 0) (grown_less l r (record { same_length = omega (arith, g.same_length); kept = λ q. g.kept (suc q) }))
  where
    go : (a b : Bool) → (a ≡ true → b ≡ true) → (l ≡ r) ⊎ (unmarked r < unmarked l) → (a ∷ l ≡ b ∷ r) ⊎ (unmarked (b ∷ r) < unmarked (a ∷ l))
    go true true k (inl e) = inl (ap (λ (s : List Bool). true ∷ s) e)
    go true true k (inr h) = inr h
    go true false k o = absurd (false≢true (k refl))
    go false true k (inl e) = inr (omega (arith, ap unmarked e))
    go false true k (inr h) = inr (omega arith)
    go false false k (inl e) = inl (ap (λ (s : List Bool). false ∷ s) e)
    go false false k (inr h) = inr (suc-le-suc h)
