-- Similarity (`stable_id_similarity`).
use Rattle.std.specs.Prelude.{ℕ, ◌+◌, ◌-◌, min, max, cond, ◌||◌, List, [], ◌∷◌, ltb}
use Rattle.refusal.specs.Outcome.{Outcome, Test, test, outcome}
use Rattle.ids.specs.Offsets.{id_too_long}

-- "the absolute difference" of two bytes
abbrev pub gap : ℕ → ℕ → ℕ
gap a b = max a b - min a b

-- what one byte pair adds: "10 minus the absolute difference, or 0 if that is negative"
unfoldable pub byte_score : ℕ → ℕ → ℕ
byte_score a b = cond (ltb 10 (gap a b)) 0 (10 - gap a b)

-- over the common length, each byte pair adds its score
unfoldable pub similarity : List ℕ → List ℕ → ℕ
unfolding byte_score
similarity [] r = 0
similarity (a ∷ l) [] = 0
similarity (a ∷ l) (b ∷ r) = byte_score a b + similarity l r

-- the conditions that Similarity tests, in its order
unfoldable pub similarity_tests : List ℕ → List ℕ → List Test
unfolding id_too_long
similarity_tests lhs rhs = test 3 (id_too_long lhs || id_too_long rhs) ∷ []

-- the call, refusals included
unfoldable pub similarity_call : List ℕ → List ℕ → Outcome ℕ
unfolding similarity_tests outcome similarity
similarity_call lhs rhs = outcome (similarity_tests lhs rhs) (similarity lhs rhs)
