-- Worked examples of names, each with the name that it has to give.
use Rattle.std.specs.Prelude.{ℕ, Bool, true, false, ◌&&◌, List, [], ◌∷◌, ◌++◌, replicate}
use Rattle.lists.specs.Same.{same_numbers}
use Rattle.chunk_names.specs.Name.{name_of}

-- whether the chunk is entries-aware, its group's name, the first two words of its entry bits, the entry names, and its name
pub data Example : Type 0 where
  example : Bool → List ℕ → ℕ → ℕ → List (List ℕ) → List ℕ → Example

-- the hash that is handed in with each: "01234567"
abbrev pub hash : List ℕ
hash = 48 ∷ 49 ∷ 50 ∷ 51 ∷ 52 ∷ 53 ∷ 54 ∷ 55 ∷ []

unfoldable pub holds : Example → Bool
unfolding name_of same_numbers
holds (example aware group word₀ word₁ names expected) =
    same_numbers (name_of aware group (record { words = word₀ ∷ word₁ ∷ 0 ∷ 0 ∷ [] }) names hash) expected

unfoldable pub all_hold : List Example → Bool
unfolding holds
all_hold [] = true
all_hold (e ∷ examples) = holds e && all_hold examples

-- "ui"; the letters a, b and c; n times "g"
abbrev pub ui : List ℕ
ui = 117 ∷ 105 ∷ []

abbrev pub letter : ℕ → List ℕ
letter b = b ∷ []

abbrev pub g : ℕ → List ℕ
g n = replicate n 103

-- what stands behind a cut: "~01234567"
abbrev pub cut : List ℕ
cut = 126 ∷ hash

unfoldable pub examples : List Example
examples =
    -- no entry: ui
    example true ui 0 0 [] ui
    -- one entry: ui~a
    ∷ example true ui 1 0 (letter 97 ∷ []) (ui ++ (126 ∷ 97 ∷ []))
    -- several, ascending: ui~a~b~c
    ∷ example true ui 7 0 (letter 97 ∷ letter 98 ∷ letter 99 ∷ []) (ui ++ (126 ∷ 97 ∷ 126 ∷ 98 ∷ 126 ∷ 99 ∷ []))
    -- without the bit in between: ui~a~c
    ∷ example true ui 5 0 (letter 97 ∷ letter 98 ∷ letter 99 ∷ []) (ui ++ (126 ∷ 97 ∷ 126 ∷ 99 ∷ []))
    -- an empty entry name between two: ui~a~c
    ∷ example true ui 7 0 (letter 97 ∷ [] ∷ letter 99 ∷ []) (ui ++ (126 ∷ 97 ∷ 126 ∷ 99 ∷ []))
    -- a bit at E: ui~a
    ∷ example true ui 3 0 (letter 97 ∷ []) (ui ++ (126 ∷ 97 ∷ []))
    -- entry 64, the lowest bit of the second word: ui~c
    ∷ example true ui 0 1 (replicate 64 [] ++ (letter 99 ∷ [])) (ui ++ (126 ∷ 99 ∷ []))
    -- exactly 100 bytes stay
    ∷ example true (g 98) 1 0 (letter 97 ∷ []) (g 98 ++ (126 ∷ 97 ∷ []))
    -- 101 bytes are cut at byte 91
    ∷ example true (g 99) 1 0 (letter 97 ∷ []) (g 91 ++ cut)
    -- a group name of 101 bytes is cut, with no entry too
    ∷ example true (g 101) 0 0 [] (g 91 ++ cut)
    -- byte 91 is the second of two (C3 A9): cut at 90
    ∷ example true (g 90 ++ (195 ∷ 169 ∷ g 20)) 0 0 [] (g 90 ++ cut)
    -- byte 91 is the second of three (E2 82 AC): cut at 90
    ∷ example true (g 90 ++ (226 ∷ 130 ∷ 172 ∷ g 20)) 0 0 [] (g 90 ++ cut)
    -- byte 91 is the last of three: cut at 89
    ∷ example true (g 89 ++ (226 ∷ 130 ∷ 172 ∷ g 20)) 0 0 [] (g 89 ++ cut)
    -- byte 91 is the last of four (F0 9F 98 80): cut at 88
    ∷ example true (g 88 ++ (240 ∷ 159 ∷ 152 ∷ 128 ∷ g 20)) 0 0 [] (g 88 ++ cut)
    -- a character of two starts at byte 91: cut there
    ∷ example true (g 91 ++ (195 ∷ 169 ∷ g 20)) 0 0 [] (g 91 ++ cut)
    -- a chunk that isn't entries-aware keeps a bare name of 300 bytes
    ∷ example false (g 300) 1 0 (letter 97 ∷ []) (g 300)
    ∷ []
