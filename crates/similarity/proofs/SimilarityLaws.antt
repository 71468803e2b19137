-- Laws of the similarity: its bound, that it is symmetric, that the call tests in ascending order, and the similarity from byte i on.
use Prim.Native.Nat.{ℕ, ◌+◌, ◌-◌, ◌*◌, min, ◌≤◌, ◌<◌}
use mathlib.Core.Bool.{Bool, true, false, cond}
use mathlib.Core.List.{List, [], ◌∷◌}
use mathlib.Core.Path.{◌≡◌, refl, ap₂}
use native.Mathlib.Decide.{dec_le}
use native.Mathlib.Nat.{max_comm, min_comm}
use native.Mathlib.Numerals.{add-one}
use native.Mathlib.Omega.{arith}
use borrow.Author.Tests.{lt-ltb, le-ltb}
use lib.Dec.{ltb}
use lib.ListN.{length, get_or, drop, drop_of_length-le}
use lib.Seq.{drop-cons}
use Rattle.refusal.specs.Outcome.{Outcome, ascending}
use Rattle.refusal.proofs.Ladder.{Row, row}
use Rattle.similarity.specs.Similarity.{gap, byte_score, similarity, similarity_tests, similarity_call}

-- ---- one byte pair

clamped : (b : Bool) (n : ℕ) → n ≤ 10 → cond b 0 n ≤ 10
clamped true n h = omega arith
clamped false n h = h

pub byte_score_le : (a b : ℕ) → byte_score a b ≤ 10
unfolding byte_score
byte_score_le a b = clamped (ltb 10 (gap a b)) (10 - gap a b) (omega arith)

-- the score, without its case: 10 minus the difference, which counts as 10 at most
pub byte_score_clamped : (a b : ℕ) → 10 - min (gap a b) 10 ≡ byte_score a b
unfolding byte_score
byte_score_clamped a b = go (dec_le (gap a b) 10)
  where
    go : Dec (gap a b ≤ 10) → 10 - min (gap a b) 10 ≡ byte_score a b
    go (yes h) = rw (le-ltb 10 (gap a b) h) (omega arith)
    go (no h) = rw (lt-ltb 10 (gap a b) (omega arith)) (omega arith)

pub byte_score_symmetric : (a b : ℕ) → byte_score a b ≡ byte_score b a
unfolding byte_score
byte_score_symmetric a b = rw (max_comm a b, min_comm a b)

-- ---- two ids

pub similarity_le : (l r : List ℕ) → similarity l r ≤ 10 * length l
unfolding similarity
similarity_le [] r = omega arith
similarity_le (a ∷ l) [] = omega arith
similarity_le (a ∷ l) (b ∷ r) = omega (arith, byte_score_le a b, similarity_le l r)

pub symmetric : (l r : List ℕ) → similarity l r ≡ similarity r l
unfolding similarity
symmetric [] [] = refl
symmetric [] (b ∷ r) = refl
symmetric (a ∷ l) [] = refl
symmetric (a ∷ l) (b ∷ r) = ap₂ (λ (m n : ℕ). m + n) (byte_score_symmetric a b) (symmetric l r)

pub tests_ascend : (l r : List ℕ) → ascending (similarity_tests l r) ≡ true
unfolding similarity_tests ascending
tests_ascend l r = refl

-- the call, by its test as it came out
pub decided : (l r : List ℕ) {o : Outcome ℕ} → Row (similarity l r) (similarity_tests l r) o → similarity_call l r ≡ o
unfolding similarity_call
decided l r tests = row tests

-- ---- two ids from byte i on, as a loop over both meets them

nothing_right : (l : List ℕ) → similarity l [] ≡ 0
unfolding similarity
nothing_right [] = refl
nothing_right (a ∷ l) = refl

module _ (l r : List ℕ) (i : ℕ) where
  from_left_done : length l ≤ i → similarity (drop i l) (drop i r) ≡ 0
  unfolding similarity
  from_left_done h = rw (drop_of_length-le l h)

  from_right_done : length r ≤ i → similarity (drop i l) (drop i r) ≡ 0
  from_right_done h = rw (drop_of_length-le r h) (nothing_right (drop i l))

  -- past the common length
  pub from_done : min (length l) (length r) ≤ i → similarity (drop i l) (drop i r) ≡ 0
  from_done h = go (dec_le (length l) (length r))
    where
      go : Dec (length l ≤ length r) → similarity (drop i l) (drop i r) ≡ 0
      go (yes p) = from_left_done (omega arith)
      go (no p) = from_right_done (omega arith)

  pub from_pair : i < length l → i < length r
      → similarity (drop i l) (drop i r) ≡ byte_score (get_or l i 0) (get_or r i 0) + similarity (drop (i + 1) l) (drop (i + 1) r)
  unfolding similarity
  from_pair p q = rw (add-one, drop-cons l i 0 p, drop-cons r i 0 q)
