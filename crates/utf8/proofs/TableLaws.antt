-- RFC 3629's table, row by row: no first byte is a tail, and what follows a first byte are tails, three at most.
use Prim.Native.Nat.{ℕ, ◌≤◌, ◌<◌}
use mathlib.Core.Bool.{Bool, true, false, ◌&&◌, ◌||◌, cond, false≢true}
use mathlib.Core.List.{List, [], ◌∷◌}
use mathlib.Core.Path.{◌≡◌, refl}
use native.Mathlib.Omega.{arith}
use borrow.Author.Tests.{leb-true, ltb-true, le-leb, lt-leb}
use lib.Dec.{leb, ltb}
use lib.ListN.{length}
use Rattle.lists.proofs.Below.{both}
use Rattle.utf8.specs.Table.{Values, among, tail, Character, character, characters, begins, following}

both_le : (a b c d : ℕ) → leb a b && leb c d ≡ true → (a ≤ b) × (c ≤ d)
both_le a b c d e = let p = both (leb a b) (leb c d) e in (leb-true a b p.0, leb-true c d p.1)

-- ---- values

among_ends : (v : Values) (b : ℕ) → among v b ≡ true → (v.lowest ≤ b) × (b ≤ v.highest)
among_ends v b = both_le v.lowest b b v.highest

-- a byte from 80 to BF is a tail
pub is_tail : (b : ℕ) → 128 ≤ b → b ≤ 191 → among tail b ≡ true
is_tail b p q = rw (le-leb 128 b p, le-leb b 191 q)

-- a byte below the tails is none
pub below_tail : (b : ℕ) → b < 128 → among tail b ≡ false
below_tail b p = rw (lt-leb 128 b p)

-- a byte above the tails is none
pub above_tail : (b : ℕ) → 191 < b → among tail b ≡ false
above_tail b p = let q : 128 ≤ b = omega arith in rw (le-leb 128 b q, lt-leb b 191 p)

-- all of the values are tails
within_tail : Values → Bool
within_tail v = leb 128 v.lowest && leb v.highest 191

among_within : (v : Values) (b : ℕ) → within_tail v ≡ true → among v b ≡ true → among tail b ≡ true
unfolding within_tail
among_within v b t e =
    let p : (128 ≤ v.lowest) × (v.highest ≤ 191) = both_le _ _ _ _ t in
    let q : (v.lowest ≤ b) × (b ≤ v.highest) = among_ends v b e in
    is_tail b (omega arith) (omega arith)

-- none of the values is a tail
apart : Values → Bool
apart v = ltb v.highest 128 || ltb 191 v.lowest

among_apart : (v : Values) (b : ℕ) → apart v ≡ true → among v b ≡ true → among tail b ≡ false
unfolding apart
among_apart v b a e = go (ltb v.highest 128) refl
  where
    ends : (v.lowest ≤ b) × (b ≤ v.highest)
    ends = among_ends v b e

    go : (t : Bool) → ltb v.highest 128 ≡ t → among tail b ≡ false
    go true p = below_tail b (omega (arith, ends, ltb-true v.highest 128 p))
    go false p = above_tail b (omega (arith, ends, ltb-true 191 v.lowest (rw p at a)))

-- ---- what is due

-- all of what is due are tails
pub tails : List Values → Bool
tails [] = true
tails (v ∷ due) = within_tail v && tails due

pub none_due : tails [] ≡ true
unfolding tails
none_due = refl

module _ (v : Values) (due : List Values) (t : tails (v ∷ due) ≡ true) where
  pub due_tail : (b : ℕ) → among v b ≡ true → among tail b ≡ true
  unfolding tails
  due_tail b e = among_within v b (both (within_tail v) (tails due) t).0 e

  pub due_rest : tails due ≡ true
  unfolding tails
  due_rest = (both (within_tail v) (tails due) t).1

-- ---- rows

-- what holds of each row, by its first byte and by what follows it
sound : List Character → Bool
sound [] = true
sound (character first rest ∷ kinds) = apart first && (tails rest && (leb (length rest) 3 && sound kinds))

characters_sound : sound characters ≡ true
unfolding sound characters apart tails within_tail
characters_sound = refl

module _ (first : Values) (rest : List Values) (kinds : List Character) (s : sound (character first rest ∷ kinds) ≡ true) where
  row : (apart first ≡ true) × (tails rest ≡ true) × (length rest ≤ 3) × (sound kinds ≡ true)
  unfolding sound
  row =
      let p = both (apart first) (tails rest && (leb (length rest) 3 && sound kinds)) s in
      let q = both (tails rest) (leb (length rest) 3 && sound kinds) p.1 in
      let r = both (leb (length rest) 3) (sound kinds) q.1 in
      (p.0, q.0, leb-true (length rest) 3 r.0, r.1)

begins_apart : (kinds : List Character) (b : ℕ) → sound kinds ≡ true → begins kinds b ≡ true → among tail b ≡ false
unfolding begins
begins_apart [] b s e = absurd (false≢true e)
begins_apart (character first rest ∷ kinds) b s e = go (among first b) refl (begins_apart kinds b (row first rest kinds s).3)
  where
    go : (t : Bool) → among first b ≡ t → (begins kinds b ≡ true → among tail b ≡ false) → among tail b ≡ false
    go true p later = among_apart first b (row first rest kinds s).0 p
    go false p later = later (rw p at e)

abbrev Few : List Values → Type 0
Few due = (tails due ≡ true) × (length due ≤ 3)

following_few : (kinds : List Character) (b : ℕ) → sound kinds ≡ true → Few (following kinds b)
unfolding following tails
following_few [] b s = (refl, omega arith)
following_few (character first rest ∷ kinds) b s =
    go (among first b) ((row first rest kinds s).1, (row first rest kinds s).2) (following_few kinds b (row first rest kinds s).3)
  where
    go : (t : Bool) → Few rest → Few (following kinds b) → Few (cond t rest (following kinds b))
    go true now later = now
    go false now later = later

-- the first byte of a character is no tail
pub first_apart : (b : ℕ) → begins characters b ≡ true → among tail b ≡ false
first_apart b = begins_apart characters b characters_sound

-- what follows a first byte are tails
pub following_tails : (b : ℕ) → tails (following characters b) ≡ true
following_tails b = (following_few characters b characters_sound).0

-- a character has at most four bytes
pub following_length : (b : ℕ) → length (following characters b) ≤ 3
following_length b = (following_few characters b characters_sound).1
