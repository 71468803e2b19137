-- What a call answers: one number if a condition that it tests applies, else its values.
use Rattle.std.specs.Prelude.{ℕ, Bool, true, cond, ◌&&◌, List, [], ◌∷◌, ◌≡◌, ltb}

-- "a call returns one number" or it is accepted, with what it then answers
pub data Outcome (A : Type 0) : Type 0 where
  refused : ℕ → Outcome A
  accepted : A → Outcome A

-- the number of an outcome, and 0 if the call is accepted; no condition has the number 0
abbrev pub number_of : {A : Type 0} → Outcome A → ℕ
number_of (refused n) = n
number_of (accepted a) = 0

-- what a place holds after a call that writes its value there: a refusal leaves what it held
abbrev pub value_or : {A : Type 0} → Outcome A → A → A
value_or (refused n) held = held
value_or (accepted a) held = a

-- the outcome of a call whose values are said in another form
abbrev pub mapped : {A B : Type 0} → (A → B) → Outcome A → Outcome B
mapped f (refused n) = refused n
mapped f (accepted a) = accepted (f a)

-- a condition that a call tests: its number in the tables, and whether it applies
pub data Test : Type 0 where
  test : ℕ → Bool → Test

-- The first condition in a call's order that applies gives the number. If none applies, the call is accepted.
unfoldable pub outcome : {A : Type 0} → List Test → A → Outcome A
outcome [] a = accepted a
outcome (test n b ∷ ts) a = cond b (refused n) (outcome ts a)

-- the number of the first condition that applies, and 0 if none does
unfoldable pub first_number : List Test → ℕ
unfolding outcome
first_number tests = number_of (outcome {A = Unit {0}} tests tt)

-- the numbers of a call's order strictly ascend, so that first is lowest
unfoldable pub ascending : List Test → Bool
ascending [] = true
ascending (test n b ∷ []) = true
ascending (test m a ∷ test n b ∷ ts) = ltb m n && ascending (test n b ∷ ts)

-- the condition of number n is among those that apply
pub data Applies (n : ℕ) : List Test → Type 0 where
  here : {m : ℕ} {b : Bool} {ts : List Test} → m ≡ n → b ≡ true → Applies n (test m b ∷ ts)
  there : {t : Test} {ts : List Test} → Applies n ts → Applies n (t ∷ ts)
