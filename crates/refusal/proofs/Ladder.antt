-- A row of tests makes the number of a call: the first condition that applies gives it, one that does not is passed, and at the end there is none.
-- A row in two parts: the first refuses, or is passed.
use Prim.Native.Nat.{ℕ, ◌<◌}
use mathlib.Core.Bool.{Bool, true, false, ◌&&◌}
use mathlib.Core.List.{List, [], ◌∷◌, ◌++◌}
use mathlib.Core.Path.{◌≡◌, refl, sym, ap, ◌∙◌}
use native.Mathlib.Omega.{arith}
use borrow.Author.Tests.{ltb-true}
use lib.Dec.{ltb}
use Rattle.refusal.specs.Outcome.{Outcome, refused, accepted, Test, test, outcome, number_of, first_number}
use Rattle.refusal.specs.Answers.{refusal_number}
use Rattle.refusal.specs.declared.Refusal.{Refusal}
use Rattle.refusal.specs.declared.Refusal.TheVariants as refusal
use Rattle.refusal.proofs.Calls.{never_both}
use Rattle.refusal.proofs.Lowest.{both}

-- ---- one test after another

-- the tests as they came out, and what the call then answers
pub data Row {A : Type 0} (a : A) : List Test → Outcome A → Type 0 where
  none_applies : Row a [] (accepted a)
  applies : {n : ℕ} {t : Bool} {ts : List Test} → t ≡ true → Row a (test n t ∷ ts) (refused n)
  passes : {n : ℕ} {t : Bool} {ts : List Test} {o : Outcome A} → t ≡ false → Row a ts o → Row a (test n t ∷ ts) o

pub row : {A : Type 0} {a : A} {ts : List Test} {o : Outcome A} → Row a ts o → outcome ts a ≡ o
unfolding outcome
row none_applies = refl
row (applies e) = rw e
row (passes e r) = rw e (row r)

-- the number alone
pub number : {k : ℕ} {ts : List Test} → Row {A = Unit {0}} tt ts (refused k) → k ≡ first_number ts
unfolding first_number
number r = sym (ap number_of (row r))

pub no_number : {ts : List Test} → Row {A = Unit {0}} tt ts (accepted tt) → 0 ≡ first_number ts
unfolding first_number
no_number r = sym (ap number_of (row r))

-- ---- what is known of a test

-- an accepted call has passed its first condition, and the rest
pub next : {A : Type 0} (a v : A) (n : ℕ) (t : Bool) (ts : List Test) → outcome (test n t ∷ ts) a ≡ accepted v → (t ≡ false) × (outcome ts a ≡ accepted v)
unfolding outcome
next a v n true ts e = let z : ◌≡◌ {A = ℕ} 0 1 = cc in absurd (omega arith)
next a v n false ts e = (refl, e)

-- no number: the first does not apply, nor one of those after it
pub left : (n : ℕ) (t : Bool) (ts : List Test) → 0 < n → 0 ≡ first_number (test n t ∷ ts) → (t ≡ false) × (0 ≡ first_number ts)
unfolding first_number outcome
left n true ts h e = absurd (omega arith)
left n false ts h e = (refl, e)

-- ---- two parts, the first as an outcome

-- whatever it would answer, a call whose first conditions refuse is refused, and one whose first conditions accept goes on with the rest
module _ {A B : Type 0} (a : A) (c : B) where
  pub still_refused : (k : ℕ) (ts us : List Test) → outcome ts a ≡ refused k → outcome (ts ++ us) c ≡ refused k
  unfolding outcome
  still_refused k [] us e = let z : ◌≡◌ {A = ℕ} 0 1 = cc in absurd (omega arith)
  still_refused k (test n true ∷ ts) us e = let q : n ≡ k = cc in ap refused q
  still_refused k (test n false ∷ ts) us e = still_refused k ts us e

  pub goes_on : (v : A) (ts us : List Test) → outcome ts a ≡ accepted v → outcome (ts ++ us) c ≡ outcome us c
  unfolding outcome
  goes_on v [] us e = refl
  goes_on v (test n true ∷ ts) us e = let z : ◌≡◌ {A = ℕ} 0 1 = cc in absurd (omega arith)
  goes_on v (test n false ∷ ts) us e = goes_on v ts us e

-- an accepted call has no number in its first conditions, and is accepted by the rest
pub part_passed : {A : Type 0} (a v : A) (ts us : List Test) → outcome (ts ++ us) a ≡ accepted v → (0 ≡ first_number ts) × (outcome us a ≡ accepted v)
unfolding first_number
part_passed a v ts us e = go (outcome {A = Unit {0}} ts tt) refl
  where
    go : (o : Outcome Unit) → outcome ts tt ≡ o → (0 ≡ number_of (outcome {A = Unit {0}} ts tt)) × (outcome us a ≡ accepted v)
    go (refused k) q = absurd (never_both (still_refused tt a k ts us q) e)
    go (accepted tt) q = (sym (ap number_of q), sym (goes_on tt a tt ts us q) ∙ e)

-- ---- what a number says

-- a number that is not 0 is that of a refusal
pub other_refused : {A : Type 0} (o : Outcome A) (n : ℕ) → number_of o ≡ n → 0 < n → o ≡ refused n
other_refused (refused m) n e h = ap refused e
other_refused (accepted a) n e h = absurd (omega arith)

-- no condition has the number 0
abbrev pub numbered : List Test → Bool
numbered [] = true
numbered (test n t ∷ ts) = ltb 0 n && numbered ts

-- so that 0 says that the call is accepted
pub zero_accepted : {A : Type 0} (a : A) (ts : List Test) → numbered ts ≡ true → number_of (outcome ts a) ≡ 0 → outcome ts a ≡ accepted a
unfolding outcome
zero_accepted a [] p e = refl
zero_accepted a (test n true ∷ ts) p e = absurd (omega (arith, ltb-true 0 n (both (ltb 0 n) (numbered ts) p).0))
zero_accepted a (test n false ∷ ts) p e = zero_accepted a ts (both (ltb 0 n) (numbered ts) p).1 e

-- ---- two parts, the first as a number

module _ {A : Type 0} (a : A) where
  -- a part that has a number refuses
  pub refuses : (k : ℕ) (ts us : List Test) → 0 < k → k ≡ first_number ts → refused k ≡ outcome (ts ++ us) a
  unfolding first_number
  refuses k ts us h e = sym (still_refused tt a k ts us (other_refused (outcome ts tt) k (sym e) h))

  -- a part that has none is passed
  pub past : (ts us : List Test) → numbered ts ≡ true → 0 ≡ first_number ts → outcome (ts ++ us) a ≡ outcome us a
  unfolding first_number
  past ts us p e = goes_on tt a tt ts us (zero_accepted tt ts p (sym e))

-- both as numbers
pub stops : (k : ℕ) (ts us : List Test) → 0 < k → k ≡ first_number ts → k ≡ first_number (ts ++ us)
unfolding first_number
stops k ts us h e = ap number_of (refuses tt k ts us h e)

pub past_number : (ts us : List Test) → numbered ts ≡ true → 0 ≡ first_number ts → first_number (ts ++ us) ≡ first_number us
unfolding first_number
past_number ts us p e = ap number_of (past tt ts us p e)

-- ---- a part of the conditions, as the function that tests it answers

-- no refusal has the number 0
pub number_above : (e : Refusal) → 0 < refusal_number e
number_above refusal.Count = omega arith
number_above refusal.Length = omega arith
number_above refusal.Id = omega arith
number_above refusal.SameId = omega arith
number_above refusal.SameOrder = omega arith
number_above refusal.Total = omega arith
number_above refusal.Record = omega arith
number_above refusal.Nan = omega arith
number_above refusal.Bit = omega arith
number_above refusal.Number = omega arith
number_above refusal.ChunkCount = omega arith
number_above refusal.Area = omega arith
number_above refusal.Scratch = omega arith
number_above refusal.Utf8 = omega arith
number_above refusal.NameOrder = omega arith
number_above refusal.Hash = omega arith

-- a refusal of the part refuses the call
pub part_refuses : {A : Type 0} (a : A) (e : Refusal) (ts us : List Test) → refusal_number e ≡ first_number ts → refused (refusal_number e) ≡ outcome (ts ++ us) a
part_refuses a e ts us told = refuses a (refusal_number e) ts us (number_above e) told

-- and is the number of the first condition of both parts
pub part_stops : (e : Refusal) (ts us : List Test) → refusal_number e ≡ first_number ts → refusal_number e ≡ first_number (ts ++ us)
part_stops e ts us told = stops (refusal_number e) ts us (number_above e) told
