-- The start of a character at a byte or before it.
use Prim.Native.Nat.{ℕ, zero, suc, ◌+◌, ◌-◌, ◌≤◌, ◌<◌, zero-le, suc-le-suc}
use mathlib.Core.Bool.{Bool, true, false, not, cond, true≢false}
use mathlib.Core.List.{List, [], ◌∷◌}
use mathlib.Core.Logic.{⊎_elim}
use mathlib.Core.Path.{◌≡◌, refl, sym, ap, ◌∙◌}
use native.Mathlib.Nat.{le_refl, le_step, le_trans, le-suc_iff}
use native.Mathlib.Omega.{arith}
use lib.ListN.{length, drop, get_or}
use lib.Seq.{get_or-drop}
use Rattle.lists.proofs.Below.{both}
use Rattle.utf8.specs.Table.{Values, among, tail, characters, begins, following}
use Rattle.utf8.specs.Utf8.{goes_on, utf8}
use Rattle.utf8.specs.Start.{starts_at, start_back}
use Rattle.utf8.proofs.TableLaws.{is_tail, below_tail, above_tail, first_apart, following_length}
use Rattle.utf8.proofs.Cuts.{utf8_cut, cut_starts}

-- ---- a byte by itself

module _ (l : List ℕ) (i : ℕ) where
  -- below 80 it is a start
  pub starts_below : get_or l i 0 < 128 → starts_at l i ≡ true
  unfolding starts_at
  starts_below p = ap not (below_tail (get_or l i 0) p)

  -- above BF it is a start
  pub starts_above : 191 < get_or l i 0 → starts_at l i ≡ true
  unfolding starts_at
  starts_above p = ap not (above_tail (get_or l i 0) p)

  -- from 80 to BF it is none
  pub starts_not : 128 ≤ get_or l i 0 → get_or l i 0 ≤ 191 → starts_at l i ≡ false
  unfolding starts_at
  starts_not p q = ap not (is_tail (get_or l i 0) p q)

-- ---- one step back

-- a start is itself the start at or before it
pub back_here : (l : List ℕ) (i : ℕ) → starts_at l i ≡ true → start_back l i ≡ i
unfolding start_back
back_here l zero s = refl
back_here l (suc i) s = rw s

-- from a tail the byte before it is looked at
pub back_before : (l : List ℕ) (i : ℕ) → starts_at l i ≡ false → start_back l i ≡ start_back l (i - 1)
unfolding start_back
back_before l zero s = refl
back_before l (suc i) s = let e : i ≡ suc i - 1 = omega arith in rw s (ap (start_back l) e)

-- ---- where it stands

-- the start is not past the byte
pub start_back_le : (l : List ℕ) (i : ℕ) → start_back l i ≤ i
unfolding start_back
start_back_le l zero = le_refl 0
start_back_le l (suc i) = go (starts_at l (suc i)) (start_back_le l i)
  where
    go : (t : Bool) → start_back l i ≤ i → cond t (suc i) (start_back l i) ≤ suc i
    go true before = le_refl (suc i)
    go false before = le_step before

-- in a text it is a start
pub start_back_starts : (l : List ℕ) (i : ℕ) → utf8 l ≡ true → starts_at l (start_back l i) ≡ true
unfolding start_back utf8 goes_on
start_back_starts l zero e = cut_starts l 0 e refl
start_back_starts l (suc i) e = go (starts_at l (suc i)) refl (start_back_starts l i e)
  where
    go : (t : Bool) → starts_at l (suc i) ≡ t → starts_at l (start_back l i) ≡ true → starts_at l (cond t (suc i) (start_back l i)) ≡ true
    go true p before = p
    go false p before = before

-- no start stands between it and the byte
pub start_back_last : (l : List ℕ) (i j : ℕ) → start_back l i < j → j ≤ i → starts_at l j ≡ false
unfolding start_back
start_back_last l zero j p q = absurd (omega arith)
start_back_last l (suc i) j p q = go (starts_at l (suc i)) refl p (start_back_last l i j)
  where
    go : (t : Bool) → starts_at l (suc i) ≡ t → cond t (suc i) (start_back l i) < j → (start_back l i < j → j ≤ i → starts_at l j ≡ false) → starts_at l j ≡ false
    go true s r before = absurd (omega arith)
    go false s r before = ⊎_elim (λ h. before r h) (λ h. ap (starts_at l) h ∙ s) (le-suc_iff.0 q)

-- as many tails stand in a row as are due
row_of_tails : (due : List Values) (l : List ℕ) (n : ℕ) → goes_on due l ≡ true → ((j : ℕ) → j < n → starts_at l j ≡ false) → n ≤ length due
unfolding goes_on starts_at
row_of_tails due l zero e h = zero-le
row_of_tails due [] (suc n) e h = absurd (true≢false (h 0 (omega arith)))
row_of_tails [] (b ∷ l) (suc n) e h =
    let s = first_apart b (both (begins characters b) (goes_on (following characters b) l) e).0 in
    absurd (true≢false (sym (ap not s) ∙ h 0 (omega arith)))
row_of_tails (v ∷ due) (b ∷ l) (suc n) e h =
    suc-le-suc (row_of_tails due l n (both (among v b) (goes_on due l) e).1 (λ j p. h (suc j) (suc-le-suc p)))

-- behind the first byte of a text three tails stand in a row at most
row_behind : (l : List ℕ) (n : ℕ) → utf8 l ≡ true → ((j : ℕ) → j < n → starts_at l (suc j) ≡ false) → n ≤ 3
unfolding utf8 goes_on starts_at
row_behind l zero e h = zero-le
row_behind [] (suc n) e h = absurd (true≢false (h 0 (omega arith)))
row_behind (b ∷ l) (suc n) e h =
    let rest = (both (begins characters b) (goes_on (following characters b) l) e).1 in
    le_trans (row_of_tails (following characters b) l (suc n) rest h) (following_length b)

-- in a text it is at most three bytes before the byte
pub start_back_near : (l : List ℕ) (i : ℕ) → utf8 l ≡ true → i ≤ start_back l i + 3
unfolding starts_at
start_back_near l i e =
    let behind = (utf8_cut l (start_back l i) e (start_back_starts l i e)).1 in
    let few : i - start_back l i ≤ 3 = row_behind (drop (start_back l i) l) (i - start_back l i) behind tail_at in
    omega arith
  where
    tail_at : (j : ℕ) → j < i - start_back l i → starts_at (drop (start_back l i) l) (suc j) ≡ false
    tail_at j p =
        ap (λ (b : ℕ). not (among tail b)) (get_or-drop (start_back l i) l (suc j) 0)
        ∙ start_back_last l i (start_back l i + suc j) (omega arith) (omega arith)

-- ---- what it depends on

-- bytes past the one at hand don't matter
pub start_back_same : (l m : List ℕ) (i : ℕ) → ((j : ℕ) → j ≤ i → get_or l j 0 ≡ get_or m j 0) → start_back l i ≡ start_back m i
unfolding start_back starts_at
start_back_same l m zero h = refl
start_back_same l m (suc i) h = rw (h (suc i) (le_refl (suc i)), start_back_same l m i (λ j p. h j (le_step p)))
