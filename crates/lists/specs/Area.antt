-- Lists in areas: at the front of one, and from a place on.
use Rattle.std.specs.Prelude.{ℕ, ◌+◌, List, ◌++◌, ◌≡◌, length, take, drop}

-- a list at the front; what the rest of the area holds is free
pub record Holds {A : Type 0} (list : List A) (count : ℕ) (area : List A) : Type 0 where
  pub number : count ≡ length list
  pub entries : take count area ≡ list

-- new elements from the place `at` on, those before and past them as they were
abbrev pub placed : {A : Type 0} → ℕ → List A → List A → List A
placed at new before = take at before ++ (new ++ drop (at + length new) before)
