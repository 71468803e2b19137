-- Refusal 3 over a table of offsets: how the test goes on from offset k, and what a table that passes says of its offsets.
use Prim.Native.Nat.{ℕ, zero, suc, ◌+◌, ◌-◌, ◌≤◌, ◌<◌}
use mathlib.Core.Bool.{Bool, true, false, ◌||◌, or-false, or_assoc}
use mathlib.Core.List.{List, [], ◌∷◌}
use mathlib.Core.Path.{◌≡◌, sym, ap, ◌∙◌}
use native.Mathlib.Numerals.{add-one}
use native.Mathlib.Omega.{arith}
use borrow.Author.Tests.{lt-ltb, le-ltb, ltb-false}
use lib.Dec.{ltb}
use lib.ListN.{length, get_or, drop, drop_of_length-le}
use lib.Seq.{drop-cons}
use Rattle.lists.proofs.Below.{neither}
use Rattle.ids.specs.Offsets.{bad_offsets}

-- two offsets that follow each other: they fall, or their id is too long
abbrev pub bad_pair : ℕ → ℕ → ℕ → Bool
bad_pair longest a b = ltb b a || ltb longest (b - a)

-- what the test says of the offsets that follow a
after : ℕ → ℕ → ℕ → List ℕ → Bool
after longest end a [] = false
after longest end a (b ∷ rest) = bad_pair longest a b || bad_offsets longest end (b ∷ rest)

one : (longest end a : ℕ) (rest : List ℕ) → bad_offsets longest end (a ∷ rest) ≡ (ltb end a || after longest end a rest)
unfolding bad_offsets after
one longest end a [] = sym (or-false (ltb end a))
one longest end a (b ∷ rest) =
    ap (λ (t : Bool). ltb end a || t) (sym (or_assoc (ltb b a) (ltb longest (b - a)) (bad_offsets longest end (b ∷ rest))))

-- ---- the offsets from k on, of a table whose byte slice has the given end

module _ (longest end : ℕ) (l : List ℕ) (k : ℕ) where
  from_offset : k < length l → bad_offsets longest end (drop k l) ≡ (ltb end (get_or l k 0) || after longest end (get_or l k 0) (drop (k + 1) l))
  from_offset h = rw (add-one, drop-cons l k 0 h) (one longest end (get_or l k 0) (drop (suc k) l))

  after_pair : k + 1 < length l
      → after longest end (get_or l k 0) (drop (k + 1) l) ≡ (bad_pair longest (get_or l k 0) (get_or l (k + 1) 0) || bad_offsets longest end (drop (k + 1) l))
  unfolding after
  after_pair h = rw (drop-cons l (k + 1) 0 h)

  -- offset k passes the end
  pub past_end : k < length l → end < get_or l k 0 → bad_offsets longest end (drop k l) ≡ true
  past_end h p = rw (from_offset h, lt-ltb end (get_or l k 0) p)

  -- it does not, and what follows it decides
  within : k < length l → get_or l k 0 ≤ end → bad_offsets longest end (drop k l) ≡ after longest end (get_or l k 0) (drop (k + 1) l)
  within h p = rw (from_offset h, le-ltb end (get_or l k 0) p)

  pub last_offset : k < length l → length l ≤ k + 1 → get_or l k 0 ≤ end → bad_offsets longest end (drop k l) ≡ bad_offsets longest end (drop (k + 1) l)
  unfolding after bad_offsets
  last_offset h e p = within h p ∙ rw (drop_of_length-le l e)

  -- it has a next: their pair is bad, or the offsets from the next on decide
  pub pair : (b : Bool) → k + 1 < length l → get_or l k 0 ≤ end → bad_pair longest (get_or l k 0) (get_or l (k + 1) 0) ≡ b
      → bad_offsets longest end (drop k l) ≡ (b || bad_offsets longest end (drop (k + 1) l))
  pair b h p e =
      within (omega arith) p ∙ after_pair h ∙ ap (λ (t : Bool). t || bad_offsets longest end (drop (k + 1) l)) e

-- no offset is left
pub no_offset : (longest end : ℕ) (l : List ℕ) (k : ℕ) → length l ≤ k → bad_offsets longest end (drop k l) ≡ false
unfolding bad_offsets
no_offset longest end l k h = rw (drop_of_length-le l h)

-- ---- a table that passes

module _ (longest end : ℕ) (l : List ℕ) (good : bad_offsets longest end l ≡ false) where
  -- what passes from k on: offset k, and what follows it
  passes : (k : ℕ) → k < length l → bad_offsets longest end (drop k l) ≡ false
      → (ltb end (get_or l k 0) ≡ false) × (after longest end (get_or l k 0) (drop (k + 1) l) ≡ false)
  passes k h e = neither (ltb end (get_or l k 0)) (after longest end (get_or l k 0) (drop (k + 1) l)) (sym (from_offset longest end l k h) ∙ e)

  pair_passes : (k : ℕ) → k + 1 < length l → bad_offsets longest end (drop k l) ≡ false
      → (bad_pair longest (get_or l k 0) (get_or l (k + 1) 0) ≡ false) × (bad_offsets longest end (drop (k + 1) l) ≡ false)
  pair_passes k h e =
      neither (bad_pair longest (get_or l k 0) (get_or l (k + 1) 0)) (bad_offsets longest end (drop (k + 1) l))
      (sym (after_pair longest end l k h) ∙ (passes k (omega arith) e).1)

  from : (k : ℕ) → k < length l → bad_offsets longest end (drop k l) ≡ false
  from zero h = good
  from (suc k) h = rw add-one at (pair_passes k (omega arith) (from k (omega arith))).1

  pub offset_within : (k : ℕ) → k < length l → get_or l k 0 ≤ end
  offset_within k h = ltb-false _ _ (passes k h (from k h)).0

  pub offset_pair : (k : ℕ) → k + 1 < length l → (get_or l k 0 ≤ get_or l (k + 1) 0) × (get_or l (k + 1) 0 - get_or l k 0 ≤ longest)
  offset_pair k h =
      let a = get_or l k 0 in
      let b = get_or l (k + 1) 0 in
      let s = neither (ltb b a) (ltb longest (b - a)) (pair_passes k h (from k (omega arith))).0 in
      (ltb-false b a s.0, ltb-false longest (b - a) s.1)
