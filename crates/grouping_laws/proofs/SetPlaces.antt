-- The places of a set ascend, and stand below the count of the members. There is at least one if some member takes part, since marks are
-- only added.
use Prim.Native.Nat.{ℕ, zero, suc, ◌+◌, ◌≤◌, ◌<◌}
use mathlib.Core.Bool.{Bool, true, false, ◌||◌, false≢true}
use mathlib.Core.List.Memᴰ
use mathlib.Core.List.{List, [], ◌∷◌, map, Memᴰ}
use mathlib.Core.Logic.{⊎_elim}
use mathlib.Core.Path.{◌≡◌, refl, sym, ap, ◌∙◌}
use native.Mathlib.Omega.{arith}
use lib.ListN.{length, length-map}
use Rattle.lists.specs.Keep.{keep_head}
use Rattle.lists.proofs.Sort.{none, more}
use Rattle.options.specs.declared.Settings.{Settings}
use Rattle.grouping.specs.Tree.{Member, Tree}
use Rattle.grouping.specs.Sets.{takes_part, or_marks, followed, follow, rounds, captured, marked_from, set_of, named}
use Rattle.grouping_laws.proofs.Pieces.{Ascending}

-- places of an item of a tree of n members
pub record Placed (n : ℕ) (places : List ℕ) : Type 0 where
  pub ascend : Ascending places
  pub below : (p : ℕ) → Memᴰ p places → p < n

-- ---- marks: what is kept when more are added holds of those that are captured

module _ (P : List Bool → Type 0) (added : (marks new : List Bool) → P marks → P (or_marks marks new)) where
  followed_holds : (b : Bool) (m : Member) (marks : List Bool) → P marks → P (followed b m marks)
  followed_holds true m marks h = added marks m.edges h
  followed_holds false m marks h = h

  follow_holds : (tree : Tree) (old marks : List Bool) → P marks → P (follow tree old marks)
  unfolding follow
  follow_holds [] old marks h = h
  follow_holds (m ∷ tree) [] marks h = h
  follow_holds (m ∷ tree) (b ∷ old) marks h = follow_holds tree old (followed b m marks) (followed_holds b m marks h)

  rounds_hold : (n : ℕ) (tree : Tree) (marks : List Bool) → P marks → P (rounds n tree marks)
  unfolding rounds
  rounds_hold zero tree marks h = h
  rounds_hold (suc n) tree marks h = rounds_hold n tree (follow tree marks marks) (follow_holds tree marks marks h)

  captured_holds : (b : Bool) (tree : Tree) (marks : List Bool) → P marks → P (captured b tree marks)
  captured_holds true tree marks h = rounds_hold (length tree) tree marks h
  captured_holds false tree marks h = h

or_length : (marks new : List Bool) → length (or_marks marks new) ≡ length marks
unfolding or_marks
or_length [] new = refl
or_length (a ∷ marks) [] = refl
or_length (a ∷ marks) (b ∷ new) = ap suc (or_length marks new)

or_marked : (marks new : List Bool) → Memᴰ true marks → Memᴰ true (or_marks marks new)
unfolding or_marks
or_marked [] new i = i
or_marked (a ∷ marks) [] i = i
or_marked (a ∷ marks) (b ∷ new) i =
    ⊎_elim (λ e. Memᴰ.head (ap (λ (t : Bool). t || b) e)) (λ t. Memᴰ.tail (or_marked marks new t)) (Memᴰ.cases_cons i)

-- ---- the marked places

marked_mem : (p : ℕ) (marks : List Bool) (x : ℕ) → Memᴰ x (marked_from p marks) → (p ≤ x) × (x < p + length marks)
unfolding marked_from keep_head
marked_mem p [] x m = absurd (Memᴰ.not-nil m)
marked_mem p (a ∷ marks) x m = go a m (marked_mem (suc p) marks x)
  where
    go : (b : Bool) → Memᴰ x (keep_head b p (marked_from (suc p) marks))
        → (Memᴰ x (marked_from (suc p) marks) → (suc p ≤ x) × (x < suc p + length marks)) → (p ≤ x) × (x < p + suc (length marks))
    go true m rest = ⊎_elim (λ e. (omega arith, omega arith)) (λ t. let s = rest t in (omega arith, omega arith)) (Memᴰ.cases_cons m)
    go false m rest = let s = rest m in (omega arith, omega arith)

marked_ascend : (p : ℕ) (marks : List Bool) → Ascending (marked_from p marks)
unfolding marked_from keep_head
marked_ascend p [] = none
marked_ascend p (a ∷ marks) = go a (marked_ascend (suc p) marks)
  where
    go : (b : Bool) → Ascending (marked_from (suc p) marks) → Ascending (keep_head b p (marked_from (suc p) marks))
    go true r = more (λ y m. (marked_mem (suc p) marks y m).0) r
    go false r = r

marked_some : (p : ℕ) (marks : List Bool) → Memᴰ true marks → 1 ≤ length (marked_from p marks)
unfolding marked_from keep_head
marked_some p [] m = absurd (Memᴰ.not-nil m)
marked_some p (true ∷ marks) m = omega arith
marked_some p (false ∷ marks) m = ⊎_elim (λ e. absurd (false≢true (sym e))) (marked_some (suc p) marks) (Memᴰ.cases_cons m)

-- ---- the set

start_marked : (r : Settings) (g name : ℕ) (tree : Tree) → named r g tree name ≡ true → Memᴰ true (map (takes_part r g name) tree)
unfolding named
start_marked r g name [] e = absurd (false≢true e)
start_marked r g name (m ∷ tree) e = go (takes_part r g name m) e (start_marked r g name tree)
  where
    go : (b : Bool) → (b || named r g tree name) ≡ true → (named r g tree name ≡ true → Memᴰ true (map (takes_part r g name) tree))
        → Memᴰ true (b ∷ map (takes_part r g name) tree)
    go true f rest = Memᴰ.head refl
    go false f rest = Memᴰ.tail (rest f)

module _ (r : Settings) (g : ℕ) (tree : Tree) (name : ℕ) where
  pub set_placed : Placed (length tree) (set_of r g tree name)
  unfolding set_of
  set_placed =
      let start = map (takes_part r g name) tree in
      let marks = captured r.recursive tree start in
      let n : length marks ≡ length tree =
      captured_holds (λ l. length l ≡ length tree) (λ l new e. or_length l new ∙ e) r.recursive tree start (length-map tree (takes_part r g name)) in
      record { ascend = marked_ascend 0 marks; below = λ p m. let s = marked_mem 0 marks p m in omega arith }

  pub set_some : named r g tree name ≡ true → 1 ≤ length (set_of r g tree name)
  unfolding set_of
  set_some e =
      let start = map (takes_part r g name) tree in
      marked_some 0 (captured r.recursive tree start) (captured_holds (λ l. Memᴰ true l) or_marked r.recursive tree start (start_marked r g name tree e))
