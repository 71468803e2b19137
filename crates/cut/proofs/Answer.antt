-- What the answer of the cut says. A cut that is answered is allowed; "fewer than two modules" is answered just for those, and "no allowed cut" just for
-- two or more of which no place is allowed; the two sizes of a cut add to the size of the whole.
use Prim.Native.Nat.{ℕ, ◌-◌, ◌^◌, ◌≤◌, ◌<◌}
use mathlib.Core.Bool.{Bool, true, false, cond}
use mathlib.Core.List.{List, [], ◌∷◌, foldl, map}
use mathlib.Core.Path.{◌≡◌, refl, sym, ap, ap₂, ◌∙◌}
use native.Mathlib.Omega.{arith}
use borrow.Author.Tests.{ltb-true, ltb-false, lt-ltb}
use lib.Dec.{ltb}
use lib.Ieee.{Float, binary64, le, add}
use lib.ListN.{length, take, drop, take-append-drop}
use Rattle.lists.specs.Range.{range}
use Rattle.lists.specs.Sum.{sum}
use Rattle.lists.proofs.Below.{both}
use Rattle.lists.proofs.Keep.{Each, more}
use Rattle.lists.proofs.Sum.{sum_split}
use Rattle.whole.specs.Double.{sum_f64}
use Rattle.whole.proofs.Exact.{sum_join}
use Rattle.cut.specs.Candidate.{candidate_at, allowed}
use Rattle.cut.specs.Cut.{Chosen, fewer_than_two, none_allowed, cut, why_none, allowed_cuts, better, pick, cut_of}
use Rattle.cut.specs.declared.candidate.Candidate.{Candidate}
use Rattle.cut.proofs.Kept.{each_place, at_place, kept_passes, nothing_kept, all_fail, best_is_one}

-- a cut at i with sides of l and r: its place is inside, its sides are those of the two parts, and each reaches the minimum
pub record Allowed (ids : List (List ℕ)) (sizes : List ℕ) (minimum : Float) (i : ℕ) (l r : Float) : Type 0 where
  pub from_one : 1 ≤ i
  pub inside : i < length ids
  pub left : l ≡ sum_f64 (take i sizes)
  pub right : r ≡ sum_f64 (drop i sizes)
  pub left_reaches : le minimum l ≡ true
  pub right_reaches : le minimum r ≡ true

-- an answer that is no cut
abbrev pub NoCut : Chosen → Type 0
NoCut fewer_than_two = Unit {0}
NoCut none_allowed = Unit {0}
NoCut (cut i l r) = ⊥

-- ---- why there is none, by the count

of_cut : (t : Bool) {i : ℕ} {l r : Float} → cond t fewer_than_two none_allowed ≡ cut i l r → ⊥
of_cut true e = let z : ◌≡◌ {A = ℕ} 0 1 = cc in omega arith
of_cut false e = let z : ◌≡◌ {A = ℕ} 0 1 = cc in omega arith

of_many : (n : ℕ) (t : Bool) → ltb n 2 ≡ t → cond t fewer_than_two none_allowed ≡ none_allowed → 2 ≤ n
of_many n true h e = absurd (let z : ◌≡◌ {A = ℕ} 0 1 = cc in omega arith)
of_many n false h e = ltb-false n 2 h

of_few : (n : ℕ) (t : Bool) → ltb n 2 ≡ t → cond t fewer_than_two none_allowed ≡ fewer_than_two → n ≤ 1
of_few n true h e = omega (arith, ltb-true n 2 h)
of_few n false h e = absurd (let z : ◌≡◌ {A = ℕ} 0 1 = cc in omega arith)

module _ (ids : List (List ℕ)) (sizes : List ℕ) (minimum maximum : Float) where
  -- the cuts that are looked at: the definition's, at a place from 1 to N−1
  record Place (c : Candidate) : Type 0 where
    from_one : 1 ≤ c.index
    inside : c.index < length ids
    left : c.left ≡ sum_f64 (take c.index sizes)
    right : c.right ≡ sum_f64 (drop c.index sizes)

  places : Each Place (map (candidate_at ids sizes) (range 1 (length ids - 1)))
  unfolding candidate_at
  places = each_place Place (candidate_at ids sizes) 1 (length ids - 1) (λ i l u. record { from_one = l; inside = omega arith; left = refl; right = refl })

  -- ---- a cut is answered

  of_best : (c : Candidate) (i : ℕ) (l r : Float) → Place c × (allowed minimum c ≡ true) → cut c.index c.left c.right ≡ cut i l r
      → Allowed ids sizes minimum i l r
  unfolding allowed
  of_best c i l r p e =
      let at : c.index ≡ i = cc in
      let on_left : c.left ≡ l = cc in
      let on_right : c.right ≡ r = cc in
      let reach = both (le minimum c.left) (le minimum c.right) p.1 in
      let q = p.0 in
      record {
        from_one = rw at at q.from_one;
        inside = rw at at q.inside;
        left = sym on_left ∙ q.left ∙ ap (λ (n : ℕ). sum_f64 (take n sizes)) at;
        right = sym on_right ∙ q.right ∙ ap (λ (n : ℕ). sum_f64 (drop n sizes)) at;
        left_reaches = rw on_left at reach.0;
        right_reaches = rw on_right at reach.1;
      }

  picked : (cs : List Candidate) (i : ℕ) (l r : Float) → Each (λ c. Place c × (allowed minimum c ≡ true)) cs → pick (length ids) maximum cs ≡ cut i l r
      → Allowed ids sizes minimum i l r
  unfolding pick
  picked [] i l r all e = absurd (of_cut (ltb (length ids) 2) e)
  picked (first ∷ later) i l r (more q s) e =
      of_best (foldl (better maximum) first later) i l r (best_is_one (λ c. Place c × (allowed minimum c ≡ true)) maximum first later q s) e

  pub there_is_a_cut : (i : ℕ) (l r : Float) → cut_of ids sizes minimum maximum ≡ cut i l r → Allowed ids sizes minimum i l r
  unfolding cut_of allowed_cuts
  there_is_a_cut i l r e = picked (allowed_cuts ids sizes minimum) i l r (kept_passes Place (allowed minimum) places) e

  -- ---- none is answered: no place is allowed, and the count says why

  none_kept : (cs : List Candidate) → pick (length ids) maximum cs ≡ none_allowed → (cs ≡ []) × (2 ≤ length ids)
  unfolding pick
  none_kept [] e = (refl, of_many (length ids) (ltb (length ids) 2) refl e)
  none_kept (first ∷ later) e = absurd (let z : ◌≡◌ {A = ℕ} 0 1 = cc in omega arith)

  few_kept : (cs : List Candidate) → pick (length ids) maximum cs ≡ fewer_than_two → length ids ≤ 1
  unfolding pick
  few_kept [] e = of_few (length ids) (ltb (length ids) 2) refl e
  few_kept (first ∷ later) e = absurd (let z : ◌≡◌ {A = ℕ} 0 1 = cc in omega arith)

  pub none_allowed_lem : cut_of ids sizes minimum maximum ≡ none_allowed → (i : ℕ) → 1 ≤ i → i < length ids → allowed minimum (candidate_at ids sizes i) ≡ false
  unfolding cut_of allowed_cuts
  none_allowed_lem e i l u =
      at_place (λ c. allowed minimum c ≡ false) (candidate_at ids sizes) 1 (length ids - 1)
      (all_fail (allowed minimum) (map (candidate_at ids sizes) (range 1 (length ids - 1))) (none_kept (allowed_cuts ids sizes minimum) e).0)
      i l (omega arith)

  pub two_or_more : cut_of ids sizes minimum maximum ≡ none_allowed → 2 ≤ length ids
  unfolding cut_of
  two_or_more e = (none_kept (allowed_cuts ids sizes minimum) e).1

  pub fewer_than_two_lem : cut_of ids sizes minimum maximum ≡ fewer_than_two → length ids ≤ 1
  unfolding cut_of
  fewer_than_two_lem e = few_kept (allowed_cuts ids sizes minimum) e

  pub none_if_none_allowed : ((i : ℕ) → 1 ≤ i → i < length ids → allowed minimum (candidate_at ids sizes i) ≡ false)
      → cut_of ids sizes minimum maximum ≡ why_none (length ids)
  unfolding cut_of allowed_cuts pick
  none_if_none_allowed h =
      ap (pick (length ids) maximum)
      (nothing_kept (allowed minimum) (each_place (λ c. allowed minimum c ≡ false) (candidate_at ids sizes) 1 (length ids - 1) (λ i l u. h i l (omega arith))))

  pub below_two : length ids ≤ 1 → cut_of ids sizes minimum maximum ≡ fewer_than_two
  below_two h = none_if_none_allowed (λ i l u. absurd (omega arith))
      ∙ ap (λ (t : Bool). cond t fewer_than_two none_allowed) (lt-ltb (length ids) 2 (omega arith))

  -- the two sizes of a cut add to the size of the whole
  pub sizes_add : sum sizes ≤ 2 ^ 53 → (i : ℕ) (l r : Float) → cut_of ids sizes minimum maximum ≡ cut i l r → add binary64 l r ≡ sum_f64 sizes
  sizes_add small i l r e =
      let a = there_is_a_cut i l r e in
      ap₂ (add binary64) a.left a.right
      ∙ sum_join (take i sizes) (drop i sizes) (omega (arith, sum_split i sizes))
      ∙ ap sum_f64 (take-append-drop i sizes)
