-- The rounds of a capture mark just the places that Capture's own relation reaches. A round only adds marks, and after one that adds none
-- nothing changes; so as many rounds as places are enough.
use Prim.Native.Nat.{ℕ, zero, suc, ◌+◌, ◌≤◌, ◌<◌}
use mathlib.Core.Bool.{Bool, true, false, ◌||◌, false≢true, or-true}
use mathlib.Core.List.{List, [], ◌∷◌}
use mathlib.Core.Logic.{◌⊎◌, inl, inr, ⊎_elim, ◌↔◌}
use mathlib.Core.Path.{◌≡◌, refl, sym, ap, ◌∙◌, subst}
use native.Mathlib.Nat.{zero-add, suc-add, le_of_suc-le-suc, not-suc-le-zero}
use native.Mathlib.Omega.{arith}
use lib.ListN.{length}
use Rattle.walk.specs.Reached.{Reached, start, further}
use Rattle.grouping.specs.Tree.{Member, Tree, member_at}
use Rattle.grouping.specs.Sets.{or_marks, followed, follow, rounds, captured}
use Rattle.grouping_laws.proofs.MarkedPlaces.{Marked, marked_below, Grown, grown_same, grown_more, unmarked, unmarked_le, grown_less}

-- ---- one row of edges

or_grown : (marks more : List Bool) → Grown marks (or_marks marks more)
unfolding or_marks
or_grown [] more = grown_same []
or_grown (a ∷ marks) [] = grown_same (a ∷ marks)
or_grown (a ∷ marks) (b ∷ more) = let g = or_grown marks more in record { same_length = ap suc g.same_length; kept = kept g }
  where
    kept : Grown marks (or_marks marks more) → (q : ℕ) → Marked (a ∷ marks) q → Marked ((a || b) ∷ or_marks marks more) q
    kept g zero e = ap (λ (t : Bool). t || b) e
    kept g (suc q) e = g.kept q e

or_adds : (marks more : List Bool) (q : ℕ) → q < length marks → Marked more q → Marked (or_marks marks more) q
unfolding or_marks
or_adds [] more q h e = absurd (not-suc-le-zero h)
or_adds (a ∷ marks) [] q h e = absurd (false≢true e)
or_adds (a ∷ marks) (b ∷ more) zero h e = ap (λ (t : Bool). a || t) e ∙ or-true a
or_adds (a ∷ marks) (b ∷ more) (suc q) h e = or_adds marks more q (le_of_suc-le-suc h) e

or_from : (marks more : List Bool) (q : ℕ) → Marked (or_marks marks more) q → Marked marks q ⊎ Marked more q
unfolding or_marks
or_from [] more q e = absurd (false≢true e)
or_from (a ∷ marks) [] q e = inl e
or_from (true ∷ marks) (b ∷ more) zero e = inl refl
or_from (false ∷ marks) (b ∷ more) zero e = inr e
or_from (a ∷ marks) (b ∷ more) (suc q) e = or_from marks more q e

-- ---- one round

-- the member at place p names that at place q
abbrev pub Edge : Tree → ℕ → ℕ → Type 0
Edge tree p q = Marked (member_at tree p).edges q

followed_grown : (a : Bool) (m : Member) (marks : List Bool) → Grown marks (followed a m marks)
followed_grown true m marks = or_grown marks m.edges
followed_grown false m marks = grown_same marks

follow_grown : (tree : Tree) (old marks : List Bool) → Grown marks (follow tree old marks)
unfolding follow
follow_grown [] old marks = grown_same marks
follow_grown (m ∷ tree) [] marks = grown_same marks
follow_grown (m ∷ tree) (a ∷ old) marks = grown_more (followed_grown a m marks) (follow_grown tree old (followed a m marks))

follow_adds : (tree : Tree) (old marks : List Bool) (p q : ℕ) → q < length marks → Marked old p → Edge tree p q → Marked (follow tree old marks) q
unfolding follow
follow_adds [] old marks p q h o e = absurd (false≢true e)
follow_adds (m ∷ tree) [] marks p q h o e = absurd (false≢true o)
follow_adds (m ∷ tree) (a ∷ old) marks zero q h o e = (follow_grown tree old (followed a m marks)).kept q (adds a o)
  where
    adds : (a : Bool) → a ≡ true → Marked (followed a m marks) q
    adds true o = or_adds marks m.edges q h e
    adds false o = absurd (false≢true o)
follow_adds (m ∷ tree) (a ∷ old) marks (suc p) q h o e =
    follow_adds tree old (followed a m marks) p q (omega (arith, (followed_grown a m marks).same_length)) o e

follow_from : (tree : Tree) (old marks : List Bool) (q : ℕ) → Marked (follow tree old marks) q → Marked marks q ⊎ ((p : ℕ) × Marked old p × Edge tree p q)
unfolding follow
follow_from [] old marks q e = inl e
follow_from (m ∷ tree) [] marks q e = inl e
follow_from (m ∷ tree) (a ∷ old) marks q e =
    ⊎_elim (λ f. here a f) (λ s. inr (suc s.0, s.1, s.2)) (follow_from tree old (followed a m marks) q e)
  where
    here : (a : Bool) → Marked (followed a m marks) q → Marked marks q ⊎ ((p : ℕ) × Marked (a ∷ old) p × Edge (m ∷ tree) p q)
    here true f = ⊎_elim (λ k. inl k) (λ k. inr (zero, refl, k)) (or_from marks m.edges q f)
    here false f = inl f

-- ---- all rounds

module _ (tree : Tree) where
  rounds_grown : (n : ℕ) (marks : List Bool) → Grown marks (rounds n tree marks)
  unfolding rounds
  rounds_grown zero marks = grown_same marks
  rounds_grown (suc n) marks = grown_more (follow_grown tree marks marks) (rounds_grown n (follow tree marks marks))

  -- where a round adds nothing, no further one does
  rounds_still : (n : ℕ) (marks : List Bool) → marks ≡ follow tree marks marks → rounds n tree marks ≡ marks
  unfolding rounds
  rounds_still zero marks e = refl
  rounds_still (suc n) marks e = ap (rounds n tree) (sym e) ∙ rounds_still n marks e

  -- after as many rounds as there are places to mark, a round adds nothing
  rounds_end : (n : ℕ) (marks : List Bool) → unmarked marks ≤ n → rounds n tree marks ≡ follow tree (rounds n tree marks) (rounds n tree marks)
  unfolding rounds
  rounds_end zero marks h = ⊎_elim (λ e. e) (λ l. absurd (omega arith)) (grown_less marks (follow tree marks marks) (follow_grown tree marks marks))
  rounds_end (suc n) marks h =
      ⊎_elim
      (λ e. subst (λ (l : List Bool). l ≡ follow tree l l) (sym (rounds_still (suc n) marks e)) e)
      (λ l. rounds_end n (follow tree marks marks) (omega arith))
      (grown_less marks (follow tree marks marks) (follow_grown tree marks marks))

  rounds_add : (n extra : ℕ) (marks : List Bool) → rounds (n + extra) tree marks ≡ rounds extra tree (rounds n tree marks)
  unfolding rounds
  rounds_add zero extra marks = ap (λ (k : ℕ). rounds k tree marks) (zero-add extra)
  rounds_add (suc n) extra marks = ap (λ (k : ℕ). rounds k tree marks) (suc-add n extra) ∙ rounds_add n extra (follow tree marks marks)

-- what is reached from marked places over the edges of the tree, if they are followed; every place is eligible
abbrev pub ReachedPlace : Bool → Tree → List Bool → ℕ → Type 0
ReachedPlace recursive tree marks q =
    Reached (λ q. q < length tree) (λ p q. (recursive ≡ true) × Edge tree p q) (λ p. (p < length tree) × Marked marks p) q

module _ (tree : Tree) (marks : List Bool) (fits : length marks ≡ length tree) where
  last : rounds (length tree) tree marks ≡ follow tree (rounds (length tree) tree marks) (rounds (length tree) tree marks)
  last = rounds_end tree (length tree) marks (omega (arith, unmarked_le marks))

  -- the bound cuts nothing short
  pub enough_rounds : (extra : ℕ) → rounds (length tree + extra) tree marks ≡ rounds (length tree) tree marks
  enough_rounds extra = rounds_add tree (length tree) extra marks ∙ rounds_still tree extra (rounds (length tree) tree marks) last

  abbrev R : ℕ → Type 0
  R q = Reached (λ q. q < length tree) (Edge tree) (λ p. (p < length tree) × Marked marks p) q

  started : (names : ℕ → ℕ → Type 0) (q : ℕ) → Marked marks q → Reached (λ q. q < length tree) names (λ p. (p < length tree) × Marked marks p) q
  started names q e = let b : q < length tree = omega (arith, marked_below marks q e) in start (b, e) b

  sound : (n : ℕ) (now : List Bool) → length now ≡ length tree → ((q : ℕ) → Marked now q → R q) → (q : ℕ) → Marked (rounds n tree now) q → R q
  unfolding rounds
  sound zero now l h q e = h q e
  sound (suc n) now l h q e = sound n (follow tree now now) same next q e
    where
      same : length (follow tree now now) ≡ length tree
      same = (follow_grown tree now now).same_length ∙ l

      next : (q : ℕ) → Marked (follow tree now now) q → R q
      next q f =
          let b = marked_below (follow tree now now) q f in
          ⊎_elim (h q) (λ s. further (h s.0 s.1) s.2 (omega (arith, same))) (follow_from tree now now q f)

  complete : {q : ℕ} → R q → Marked (rounds (length tree) tree marks) q
  complete (start {m} s b) = (rounds_grown tree (length tree) marks).kept m s.1
  complete (further {m} {d} r e b) =
      let now = rounds (length tree) tree marks in
      subst (λ (l : List Bool). Marked l d) (sym last)
      (follow_adds tree now now m d (omega (arith, (rounds_grown tree (length tree) marks).same_length)) (complete r) e)

  pub rounds_reach : (q : ℕ)
      → Marked (rounds (length tree) tree marks) q ↔ Reached (λ q. q < length tree) (Edge tree) (λ p. (p < length tree) × Marked marks p) q
  rounds_reach q = (sound (length tree) marks fits (started (Edge tree)) q, complete)

  -- "with recursion off, the start alone": then no edge is followed
  pub captured_reach : (recursive : Bool) (q : ℕ) → Marked (captured recursive tree marks) q ↔ ReachedPlace recursive tree marks q
  captured_reach true q = (λ e. on ((rounds_reach q).0 e), λ r. (rounds_reach q).1 (off r))
    where
      on : {q : ℕ} → R q → ReachedPlace true tree marks q
      on (start s b) = start s b
      on (further r e b) = further (on r) (refl, e) b

      off : {q : ℕ} → ReachedPlace true tree marks q → R q
      off (start s b) = start s b
      off (further r e b) = further (off r) e.1 b
  captured_reach false q = (started (λ p q. (false ≡ true) × Edge tree p q) q, only)
    where
      only : {q : ℕ} → ReachedPlace false tree marks q → Marked marks q
      only (start s b) = s.1
      only (further r e b) = absurd (false≢true e.0)
