-- The three ways of a capture from one module: the start isn't eligible and nothing is captured, recursion is off and the start alone is
-- captured, or it is a walk from the start.
use Prim.Native.Nat.{ℕ, ◌≤◌, ◌<◌}
use mathlib.Core.Bool.{true, false, false≢true}
use mathlib.Core.List.{List}
use mathlib.Core.Logic.{◌↔◌, ◌⊎◌, inl, inr, ⊎_elim}
use mathlib.Core.Path.{◌≡◌, refl, sym, ap, ◌∙◌, subst}
use native.Mathlib.Omega.{arith}
use lib.ListN.{length, get_or, set, replicate, length-replicate}
use lib.Seq.{get_or-set_same}
use Rattle.lists.proofs.Stored.{zeros, set_cases}
use Rattle.walk.specs.Reached.{Reached, start, further, Marks}
use Rattle.walk.specs.Names.{Eligible, Names}
use Rattle.walk.specs.Walk.{WalkState}
use Rattle.walk.proofs.Reached.{more_starts, reached_all, marks_of}
use Rattle.walk.proofs.State.{state_none, state_found}
use Rattle.capture.specs.Capture.{Given, Captured}
use Rattle.capture.proofs.Captured.{captured_walk}

-- no module marked but the start
abbrev pub only_start : ℕ → ℕ → List ℕ
only_start n from = set (replicate n 0) from 1

module _ (n from : ℕ) (h : from < n) where
  in_zeros : from < length {A = ℕ} (replicate n 0)
  in_zeros = rw (length-replicate {A = ℕ} n 0) h

  start_mark : get_or (only_start n from) from 0 ≡ 1
  start_mark = get_or-set_same (replicate n 0) from 1 0 in_zeros

  -- what is marked then
  one_mark : (m : ℕ) → m < n → ((get_or (only_start n from) m 0 ≡ 1) × (m ≡ from)) ⊎ ((get_or (only_start n from) m 0 ≡ 0) × (m ≡ from → ⊥))
  one_mark m l =
      set_cases (λ x. ((x ≡ 1) × (m ≡ from)) ⊎ ((x ≡ 0) × (m ≡ from → ⊥))) (replicate n 0) from 1 m in_zeros
      (λ q. inl (refl, q))
      (λ q. inr (zeros n m, q))

  only_start_lem : (m : ℕ) → get_or (only_start n from) m 0 ≡ 1 ↔ m ≡ from
  only_start_lem m = (
    set_cases (λ x. x ≡ 1 → m ≡ from) (replicate n 0) from 1 m in_zeros (λ q o. q) (λ q o. let z = zeros n m in absurd (omega arith)),
    λ q. ap (λ (k : ℕ). get_or (only_start n from) k 0) q ∙ start_mark,
  )

-- ---- over cleared marks

module _ (g : Given) (cleared : List ℕ) (z : cleared ≡ replicate g.n 0) where
  pub capture_none : (Eligible g.flags g.from → ⊥) → Marks (Captured g) g.n cleared
  capture_none e = subst (Marks (Captured g) g.n) (sym z) (record { each = λ m l. inr (zeros g.n m, nothing) })
    where
      nothing : {m : ℕ} → Captured g m → ⊥
      nothing (start {m} s el) = e (subst (Eligible g.flags) s el)
      nothing (further r n el) = nothing r

  module _ (h : g.from < g.n) where
    from_marked : (m : ℕ) → get_or (set cleared g.from 1) m 0 ≡ 1 ↔ m ≡ g.from
    from_marked m = subst (λ (l : List ℕ). get_or (set l g.from 1) m 0 ≡ 1 ↔ m ≡ g.from) (sym z) (only_start_lem g.n g.from h m)

    -- with recursion on: what is reached from the start's mark alone is what the start captures
    pub capture_walk : (after : List ℕ) → g.recursive ≡ true → Marks (Reached (Eligible g.flags) (Names g.first g.dependency g.next g.d) (λ m. get_or (set cleared g.from 1) m 0 ≡ 1)) g.n after → Marks (Captured g) g.n after
    capture_walk after on x = marks_of (λ m. (λ r. (captured_walk g on m).1 (more_starts (λ k s. (from_marked k).0 s) r), λ c. more_starts (λ k s. (from_marked k).1 s) ((captured_walk g on m).0 c))) x

    module _ (e : Eligible g.flags g.from) where
      pub capture_alone : g.recursive ≡ false → Marks (Captured g) g.n (set cleared g.from 1)
      capture_alone off = subst (λ (l : List ℕ). Marks (Captured g) g.n (set l g.from 1)) (sym z) (record { each = λ m l. ⊎_elim (λ p. inl (p.0, start p.1 (subst (Eligible g.flags) (sym p.1) e))) (λ p. inr (p.0, λ c. p.1 (alone c))) (one_mark g.n g.from h m l) })
        where
          alone : {m : ℕ} → Captured g m → m ≡ g.from
          alone c = reached_all (λ m. m ≡ g.from) (λ m s. s) (λ m k p names el. absurd (false≢true (sym off ∙ names.0))) c

      -- with recursion on: a walk that starts with it alone
      pub start_state : (queue : List ℕ) → g.n ≤ length queue → WalkState g.flags g.n (record { marks = set cleared g.from 1; queue = set queue 0 g.from; tail = 1 })
      start_state queue room =
          subst (λ (l : List ℕ). WalkState g.flags g.n (record { marks = set l g.from 1; queue = set queue 0 g.from; tail = 1 })) (sym z)
          (state_found g.flags g.n (record { marks = replicate g.n 0; queue = queue; tail = 0 }) (state_none g.flags queue g.n room) g.from h (zeros g.n g.from) e)
