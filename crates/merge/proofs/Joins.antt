-- How many joins there are: each leaves at least one subgroup less and at least one, so there are fewer joins than subgroups, the bound cuts nothing
-- short, and in the end none is left to make.
use Prim.Native.Nat.{ℕ, zero, suc, ◌+◌, ◌≤◌, ◌<◌}
use mathlib.Core.Bool.{Bool, true, false, not, cond, false≢true}
use mathlib.Core.List.{List, [], ◌∷◌}
use mathlib.Core.Option.{Option, none, some}
use mathlib.Core.Path.{◌≡◌, refl, sym, ap, ◌∙◌}
use native.Mathlib.Nat.{lt_of_not-le, zero-add, suc-add}
use native.Mathlib.Omega.{arith}
use borrow.Author.Tests.{eq-eqb}
use lib.Dec.{eqb}
use lib.Ieee.{Float}
use lib.ListN.{length, length-map}
use Rattle.lists.specs.Keep.{keep, keep_head}
use Rattle.lists.specs.Least.{least}
use Rattle.lists.proofs.KeepLength.{keep_le}
use Rattle.lists.proofs.Keep.{Each, none as no_more, more}
use Rattle.joins.specs.Subgroup.{Subgroup, seeks, smaller, nearer, united}
use Rattle.merge.specs.Merge.{Merging, Join, stop, joins, others, join_of, join_for, next_join, joined, follow, merge_steps}
use Rattle.merge.proofs.Next.{seeker_is}
use Rattle.merge.proofs.There.{other}

-- ---- the number of joins, by the recursion of the merge itself

abbrev pub counted : Join → Merging → (Merging → ℕ) → ℕ
counted stop m rest = 0
counted (joins s t) m rest = suc (rest (joined s t m))

unfoldable pub joins_of : ℕ → Float → Merging → ℕ
joins_of zero threshold m = 0
joins_of (suc most) threshold m = counted (next_join threshold m.there) m (joins_of most threshold)

-- ---- who joins whom

module _ (s t : Subgroup) where
  of_target : (u : Subgroup) (o : Option Subgroup) → join_of u o ≡ joins s t → (u ≡ s) × (o ≡ some t)
  of_target u none e = absurd (let z : ◌≡◌ {A = ℕ} 0 1 = cc in omega arith)
  of_target u (some v) e = (cc, cc)

  of_seeker : (there : List Subgroup) (o : Option Subgroup) → join_for there o ≡ joins s t → (o ≡ some s) × (least (nearer s) (others s there) ≡ some t)
  of_seeker there none e = absurd (let z : ◌≡◌ {A = ℕ} 0 1 = cc in omega arith)
  of_seeker there (some u) e =
      let w = of_target u (least (nearer u) (others u there)) e in
      (ap some w.0, ap (λ u. least (nearer u) (others u there)) (sym w.0) ∙ w.1)

  pub joins_are : (threshold : Float) (there : List Subgroup) → next_join threshold there ≡ joins s t
      → (least smaller (keep (seeks threshold) there) ≡ some s) × (least (nearer s) (others s there) ≡ some t)
  unfolding next_join
  joins_are threshold there e = of_seeker there (least smaller (keep (seeks threshold) there)) e

-- ---- one join leaves less, and not nothing

module _ {A : Type 0} (p : A → Bool) where
  -- what is as long as before has lost nothing
  head_all : (b : Bool) (x : A) (l m : List A) → length l ≤ length m → suc (length m) ≤ length (keep_head b x l) → (b ≡ true) × (length m ≤ length l)
  unfolding keep_head
  head_all true x l m h e = (refl, omega arith)
  head_all false x l m h e = absurd (omega arith)

  keep_all : (l : List A) → length l ≤ length (keep p l) → Each (λ x. p x ≡ true) l
  unfolding keep
  keep_all [] e = no_more
  keep_all (x ∷ l) e = let w = head_all (p x) x (keep p l) l (keep_le p l) e in more w.0 (keep_all l w.1)

module _ (threshold : Float) (m : Merging) (s t : Subgroup) (e : next_join threshold m.there ≡ joins s t) where
  length_joined : length (joined s t m).there ≡ length (others s m.there)
  unfolding joined
  length_joined = length-map (others s m.there) (λ u. cond (eqb u.number t.number) (united s t) u)

  not_other : other s s ≡ true → ⊥
  not_other q = false≢true (sym (ap not (eq-eqb s.number s.number refl)) ∙ q)

  not_all : length m.there ≤ length (others s m.there) → ⊥
  unfolding others
  not_all h =
      not_other (seeker_is threshold m.there s (joins_are s t threshold m.there e).0 (λ u. other s u ≡ true) (keep_all (other s) m.there h)).0

  some_other : (l : List Subgroup) → least (nearer s) l ≡ some t → 0 < length l
  unfolding least
  some_other [] q = absurd (let z : ◌≡◌ {A = ℕ} 0 1 = cc in omega arith)
  some_other (u ∷ l) q = omega arith

  pub fewer_left : length (joined s t m).there < length m.there
  fewer_left = rw length_joined (lt_of_not-le not_all)

  pub some_left : 0 < length (joined s t m).there
  some_left = rw length_joined (some_other (others s m.there) (joins_are s t threshold m.there e).1)

-- ---- all joins

-- the number of joins and of the subgroups that are left: at most the subgroups there were
abbrev Fewer : ℕ → Float → Merging → Type 0
Fewer most threshold m = joins_of most threshold m + length (merge_steps most threshold m).there ≤ length m.there

-- where there are subgroups, some are left
abbrev Left : ℕ → Float → Merging → Type 0
Left most threshold m = 0 < length m.there → 0 < length (merge_steps most threshold m).there

-- with as many turns as subgroups, no join is left to make
abbrev Finished : ℕ → Float → Merging → Type 0
Finished most threshold m = length m.there ≤ most → next_join threshold (merge_steps most threshold m).there ≡ stop

module _ (threshold : Float) (m : Merging) (most : ℕ) where
  fewer_step : (j : Join) → next_join threshold m.there ≡ j → ((n : Merging) → Fewer most threshold n)
      → counted j m (joins_of most threshold) + length (follow j m (merge_steps most threshold)).there ≤ length m.there
  fewer_step stop e rest = omega arith
  fewer_step (joins s t) e rest = omega (arith, rest (joined s t m), fewer_left threshold m s t e)

  left_step : (j : Join) → next_join threshold m.there ≡ j → ((n : Merging) → Left most threshold n) → 0 < length m.there
      → 0 < length (follow j m (merge_steps most threshold)).there
  left_step stop e rest h = h
  left_step (joins s t) e rest h = rest (joined s t m) (some_left threshold m s t e)

  finished_step : (j : Join) → next_join threshold m.there ≡ j → ((n : Merging) → Finished most threshold n) → length m.there ≤ suc most
      → next_join threshold (follow j m (merge_steps most threshold)).there ≡ stop
  finished_step stop e rest h = e
  finished_step (joins s t) e rest h = rest (joined s t m) (omega (arith, fewer_left threshold m s t e))

module _ (threshold : Float) where
  pub fewer_joins : (most : ℕ) (m : Merging) → Fewer most threshold m
  unfolding joins_of merge_steps
  fewer_joins zero m = omega arith
  fewer_joins (suc most) m = fewer_step threshold m most (next_join threshold m.there) refl (fewer_joins most)

  pub subgroups_left : (most : ℕ) (m : Merging) → Left most threshold m
  unfolding merge_steps
  subgroups_left zero m h = h
  subgroups_left (suc most) m h = left_step threshold m most (next_join threshold m.there) refl (subgroups_left most) h

  -- no subgroup, no join
  nothing_there : (l : List Subgroup) → length l ≤ 0 → next_join threshold l ≡ stop
  unfolding next_join
  nothing_there [] h = refl
  nothing_there (u ∷ l) h = absurd (omega arith)

  pub finished : (most : ℕ) (m : Merging) → Finished most threshold m
  unfolding merge_steps
  finished zero m h = nothing_there m.there h
  finished (suc most) m h = finished_step threshold m most (next_join threshold m.there) refl (finished most) h

  -- at most one join less than subgroups
  pub joins_below : (most : ℕ) (m : Merging) → 0 < length m.there → joins_of most threshold m < length m.there
  joins_below most m h = omega (arith, fewer_joins most m, subgroups_left most m h)

-- ---- enough joins

module _ (threshold : Float) where
  steps_end : (most : ℕ) (m : Merging) → length m.there ≤ most → (extra : ℕ) → merge_steps (most + extra) threshold m ≡ merge_steps most threshold m
  unfolding merge_steps
  steps_end zero m h zero = ap (λ (n : ℕ). merge_steps n threshold m) (zero-add 0)
  steps_end zero m h (suc extra) =
      ap (λ (n : ℕ). merge_steps n threshold m) (zero-add (suc extra)) ∙ go (next_join threshold m.there) refl
    where
      go : (j : Join) → next_join threshold m.there ≡ j → follow j m (merge_steps extra threshold) ≡ m
      go stop e = refl
      go (joins s t) e = absurd (omega (arith, fewer_left threshold m s t e))
  steps_end (suc most) m h extra =
      ap (λ (n : ℕ). merge_steps n threshold m) (suc-add most extra)
      ∙ go (next_join threshold m.there) refl (λ m' l. steps_end most m' l extra)
    where
      go : (j : Join) → next_join threshold m.there ≡ j → ((m' : Merging) → length m'.there ≤ most → merge_steps (most + extra) threshold m' ≡ merge_steps most threshold m')
          → follow j m (merge_steps (most + extra) threshold) ≡ follow j m (merge_steps most threshold)
      go stop e rest = refl
      go (joins s t) e rest = rest (joined s t m) (omega (arith, fewer_left threshold m s t e))

  -- the bound cuts nothing short
  pub enough_joins : (m : Merging) (extra : ℕ) → merge_steps (length m.there + extra) threshold m ≡ merge_steps (length m.there) threshold m
  enough_joins m = steps_end (length m.there) m (omega arith)
