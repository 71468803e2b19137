-- The states between two bytes: which one a byte leads to, and what is known once the bytes end.
use Prim.Native.Nat.{ℕ, zero, suc, ◌+◌, ◌≤◌, ◌<◌, zero-le}
use mathlib.Core.Bool.{Bool, true, false, ◌&&◌, cond}
use mathlib.Core.List.{List, [], ◌∷◌}
use mathlib.Core.Path.{◌≡◌, refl, sym, ◌∙◌}
use native.Mathlib.Numerals.{add-one}
use native.Mathlib.Omega.{arith}
use borrow.Author.Tests.{leb-true, le-leb, lt-leb, le-ltb, ne_eqb}
use lib.Dec.{leb, ltb, eqb}
use lib.ListN.{length, get_or, drop}
use lib.Seq.{drop-cons}
use Rattle.utf8.specs.Table.{characters, begins, following}
use Rattle.utf8.specs.Utf8.{goes_on}
use Rattle.utf8.specs.States.{due_in, goes_from}

-- how a byte in between compares with any number
module _ (lo hi b : ℕ) (from : lo ≤ b) (to : b ≤ hi) (m : ℕ) where
  no_less : leb m lo ≡ true → leb m b ≡ true
  no_less e = le-leb m b (omega (arith, leb-true m lo e))

  no_more : leb hi m ≡ true → leb b m ≡ true
  no_more e = le-leb b m (omega (arith, leb-true hi m e))

  less : ltb hi m ≡ true → leb m b ≡ false
  less e = lt-leb m b (omega (arith, leb-true (suc hi) m e))

  more : ltb m lo ≡ true → leb b m ≡ false
  more e = lt-leb b m (omega (arith, leb-true (suc m) lo e))

-- the ranges of first bytes, and the state that each leads to
module _ (b : ℕ) (l : List ℕ) where
  -- 00 to 7F are characters by themselves
  pub first_00 : b ≤ 127 → goes_from 0 l ≡ goes_from 0 (b ∷ l)
  unfolding goes_from goes_on due_in characters begins following
  first_00 q = let p : 0 ≤ b = omega arith in simp (no_less 0 127 b p q, no_more 0 127 b p q)

  -- 80 to C1 begin no character
  pub first_80 : 128 ≤ b → b ≤ 193 → goes_from 8 l ≡ goes_from 0 (b ∷ l)
  unfolding goes_from goes_on due_in characters begins following
  first_80 p q = simp (no_less 128 193 b p q, no_more 128 193 b p q, less 128 193 b p q, more 128 193 b p q)

  -- C2 to DF: a tail is due
  pub first_C2 : 194 ≤ b → b ≤ 223 → goes_from 1 l ≡ goes_from 0 (b ∷ l)
  unfolding goes_from goes_on due_in characters begins following
  first_C2 p q = simp (no_less 194 223 b p q, no_more 194 223 b p q, less 194 223 b p q, more 194 223 b p q)

  -- E1 to EC: two tails are due
  pub first_E1 : 225 ≤ b → b ≤ 236 → goes_from 2 l ≡ goes_from 0 (b ∷ l)
  unfolding goes_from goes_on due_in characters begins following
  first_E1 p q = simp (no_less 225 236 b p q, no_more 225 236 b p q, less 225 236 b p q, more 225 236 b p q)

  -- EE to EF: two tails are due
  pub first_EE : 238 ≤ b → b ≤ 239 → goes_from 2 l ≡ goes_from 0 (b ∷ l)
  unfolding goes_from goes_on due_in characters begins following
  first_EE p q = simp (no_less 238 239 b p q, no_more 238 239 b p q, less 238 239 b p q, more 238 239 b p q)

  -- F1 to F3: three tails are due
  pub first_F1 : 241 ≤ b → b ≤ 243 → goes_from 3 l ≡ goes_from 0 (b ∷ l)
  unfolding goes_from goes_on due_in characters begins following
  first_F1 p q = simp (no_less 241 243 b p q, no_more 241 243 b p q, less 241 243 b p q, more 241 243 b p q)

  -- F5 and above begin no character
  pub first_F5 : 245 ≤ b → goes_from 8 l ≡ goes_from 0 (b ∷ l)
  unfolding goes_from goes_on due_in characters begins following
  first_F5 p = let q : b ≤ b = omega arith in simp (no_less 245 b b p q, more 245 b b p q)

-- a byte that has to be among values leads to the next state, or to none
pub goes_within : (t : Bool) (next : ℕ) (l : List ℕ) → goes_from (cond t next 8) l ≡ t && goes_from next l
unfolding goes_from
goes_within true next l = refl
goes_within false next l = refl

-- nothing is text from a state that is none of the eight
pub goes_nowhere : (state : ℕ) (l : List ℕ) → 8 ≤ state → goes_from state l ≡ false
unfolding goes_from
goes_nowhere state l h = rw (le-ltb state 8 h)

-- a number is none of those below k: what a match leaves for its last arm
abbrev NoneBelow : ℕ → ℕ → Type 0
NoneBelow zero n = Unit {0}
NoneBelow (suc k) n = NoneBelow k n × (n ≡ k → ⊥)

-- such a number is k or more
pub none_below : (k n : ℕ) → NoneBelow k n → k ≤ n
none_below zero n h = zero-le
none_below (suc k) n h = let p : k ≤ n = none_below k n h.0 in let q : (n ≡ k → ⊥) = h.1 in omega arith

past_ended : (state : ℕ) → 8 ≤ state → goes_from state [] ≡ eqb state 0
past_ended state h = goes_nowhere state [] h ∙ sym (ne_eqb state 0 (omega arith))

-- where no byte is left, a character must be able to start
pub goes_ended : (state : ℕ) → goes_from state [] ≡ eqb state 0
unfolding goes_from goes_on due_in
goes_ended zero = refl
goes_ended (suc zero) = refl
goes_ended (suc (suc zero)) = refl
goes_ended (suc (suc (suc zero))) = refl
goes_ended (suc (suc (suc (suc zero)))) = refl
goes_ended (suc (suc (suc (suc (suc zero))))) = refl
goes_ended (suc (suc (suc (suc (suc (suc zero)))))) = refl
goes_ended (suc (suc (suc (suc (suc (suc (suc zero))))))) = refl
goes_ended (suc (suc (suc (suc (suc (suc (suc (suc state)))))))) = past_ended (suc (suc (suc (suc (suc (suc (suc (suc state)))))))) (omega arith)

-- the bytes from i on, as a loop meets them
pub goes_next : (l : List ℕ) (i state next : ℕ) → i < length l → ((m : List ℕ) → goes_from next m ≡ goes_from state (get_or l i 0 ∷ m))
    → goes_from next (drop (i + 1) l) ≡ goes_from state (drop i l)
goes_next l i state next h e = rw (add-one, drop-cons l i 0 h) (e (drop (suc i) l))
