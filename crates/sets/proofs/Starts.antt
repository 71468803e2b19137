-- Several starts are visited one after another, and a walk from what is marked then reaches just what the starts reach.
use Prim.Native.Nat.{ℕ, ◌+◌, ◌≤◌, ◌<◌}
use mathlib.Core.Bool.{Bool, true}
use mathlib.Core.List.{List, ◌∷◌, ◌++◌, [], foldl, Memᴰ}
use mathlib.Core.Logic.{⊎_elim}
use mathlib.Core.Path.{◌≡◌, sym, ap, ◌∙◌, subst}
use native.Mathlib.Numerals.{add-one}
use native.Mathlib.Omega.{arith}
use borrow.Author.Tests.{eqb-true, eq-eqb}
use lib.Dec.{eqb}
use lib.ListN.{length, get_or, take, replicate}
use lib.Seq.{take-suc, take_all}
use Rattle.lists.proofs.Stored.{zeros}
use Rattle.lists.proofs.Fold.{foldl_append}
use Rattle.lists.proofs.Position.{mem_get_or, take_position}
use Rattle.walk.specs.Reached.{Reached, start, further, Marks}
use Rattle.walk.specs.Names.{Eligible, Names}
use Rattle.walk.specs.Walk.{Walk, marked_count, WalkState, visited}
use Rattle.walk.proofs.Reached.{marks_of}
use Rattle.walk.proofs.State.{state_none}
use Rattle.walk.specs.Visited.{Visited}
use Rattle.walk.proofs.Visit.{visit_all}
use Rattle.sets.specs.Captured.{StartsIn}
use Rattle.sets.proofs.Counting.{count_both}

module _ (flags starts : List ℕ) (n : ℕ) (w₀ : Walk) (s : WalkState flags n w₀) (inside : StartsIn starts n) (i : ℕ) where
  -- with the first i of them visited
  pub some_visited : {w : Walk} → foldl (visited flags) w₀ (take i starts) ≡ w → Visited flags n (take i starts) w₀ w
  some_visited e = subst (Visited flags n (take i starts) w₀) e (visit_all flags n (take i starts) w₀ s below)
    where
      below : (k : ℕ) → Memᴰ k (take i starts) → k < n
      below k m = let o = take_position i starts 0 m in subst (λ (x : ℕ). x < n) o.3 (inside o.0 o.2)

  -- one more
  pub one_visited : {w w' : Walk} → i < length starts → foldl (visited flags) w₀ (take i starts) ≡ w → visited flags w (get_or starts i 0) ≡ w'
      → foldl (visited flags) w₀ (take (i + 1) starts) ≡ w'
  one_visited {w} {w'} h e v =
      let more : take (i + 1) starts ≡ take i starts ++ (get_or starts i 0 ∷ []) = rw (add-one i) (take-suc starts i 0 h) in
      ap (foldl (visited flags) w₀) more
      ∙ foldl_append (visited flags) w₀ (take i starts) (get_or starts i 0 ∷ [])
      ∙ ap (λ (u : Walk). visited flags u (get_or starts i 0)) e
      ∙ v

  pub all_visited : {w : Walk} → length starts ≤ i → foldl (visited flags) w₀ (take i starts) ≡ w → foldl (visited flags) w₀ starts ≡ w
  all_visited h e = ap (foldl (visited flags) w₀) (sym (take_all i starts h)) ∙ e

-- starts count where they are eligible
pub eligible_starts : {E : ℕ → Type 0} {N : ℕ → ℕ → Type 0} {S T : ℕ → Type 0} → ((m : ℕ) → S m → E m → T m) → {m : ℕ} → Reached E N S m → Reached E N T m
eligible_starts h (start {m} s e) = start (h m s e) e
eligible_starts h (further r n e) = further (eligible_starts h r) n e

-- ---- over cleared marks

module _ (flags queue cleared : List ℕ) (n : ℕ) (z : cleared ≡ replicate n 0) (room : n ≤ length queue) where
  -- nothing is on the list
  abbrev cleared_walk : Walk
  cleared_walk = record { marks = cleared; queue = queue; tail = 0 }

  pub cleared_state : WalkState flags n cleared_walk
  cleared_state = subst (λ (l : List ℕ). WalkState flags n (record { marks = l; queue = queue; tail = 0 })) (sym z) (state_none flags queue n room)

  -- a walk after the visits
  module _ (starts : List ℕ) (inside : StartsIn starts n) {w : Walk} (e : foldl (visited flags) cleared_walk starts ≡ w) where
    after_visits : Visited flags n starts cleared_walk w
    after_visits = subst (Visited flags n starts cleared_walk) e (visit_all flags n starts cleared_walk cleared_state below)
      where
        below : (k : ℕ) → Memᴰ k starts → k < n
        below k m = let o = mem_get_or 0 m in subst (λ (x : ℕ). x < n) o.2 (inside o.0 o.1)

    pub starts_state : WalkState flags n w
    starts_state = after_visits.state

    only_starts : (m : ℕ) → get_or w.marks m 0 ≡ 1 → Memᴰ m starts
    only_starts m o =
        let none : get_or cleared m 0 ≡ 0 = ap (λ (l : List ℕ). get_or l m 0) z ∙ zeros n m in
        ⊎_elim (λ q. absurd (omega arith)) (λ t. t.0) (after_visits.only m o)

    pub starts_captured : (first dependency next : List ℕ) (d : ℕ) {after : List ℕ}
        → Marks (Reached (Eligible flags) (Names first dependency next d) (λ m. get_or w.marks m 0 ≡ 1)) n after
        → Marks (Reached (Eligible flags) (Names first dependency next d) (λ m. Memᴰ m starts)) n after
    starts_captured first dependency next d x = marks_of (λ m. (eligible_starts there, eligible_starts back)) x
      where
        there : (m : ℕ) → get_or w.marks m 0 ≡ 1 → Eligible flags m → Memᴰ m starts
        there m o el = only_starts m o

        back : (m : ℕ) → Memᴰ m starts → Eligible flags m → get_or w.marks m 0 ≡ 1
        back m i el = after_visits.all m i el

    -- where the walk put no more on the list, only starts are marked
    pub starts_alone : (first dependency next : List ℕ) (d : ℕ) {after : Walk} → WalkState flags n after
        → Marks (Reached (Eligible flags) (Names first dependency next d) (λ m. get_or w.marks m 0 ≡ 1)) n after.marks
        → w.tail ≡ after.tail → (m : ℕ) → m < n → get_or after.marks m 0 ≡ 1 → Memᴰ m starts
    unfolding marked_count
    starts_alone first dependency next d {after} s x e m h o =
        only_starts m
        (eqb-true (get_or w.marks m 0) 1
        (count_both (marked w.marks) (marked after.marks) n stay (omega (arith, starts_state.count, s.count)) m h
        (eq-eqb (get_or after.marks m 0) 1 o)))
      where
        marked : List ℕ → ℕ → Bool
        marked marks k = eqb (get_or marks k 0) 1

        stay : (k : ℕ) → k < n → marked w.marks k ≡ true → marked after.marks k ≡ true
        stay k l f =
            let one = eqb-true (get_or w.marks k 0) 1 f in
            eq-eqb (get_or after.marks k 0) 1
            (⊎_elim (λ q. q.0) (λ q. absurd (q.1 (start one (starts_state.eligible_ones k l one)))) (x.each k l))
