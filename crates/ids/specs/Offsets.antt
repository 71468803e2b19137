-- Refusal 3: an id offset falls or passes the end, or an id exceeds its limit of length.
use Rattle.std.specs.Prelude.{ℕ, ◌-◌, Bool, false, ◌||◌, List, [], ◌∷◌, ltb, length}

-- the longest id, in bytes
abbrev pub id_limit : ℕ
id_limit = 1024

-- "an id exceeds 1,024 bytes"
unfoldable pub id_too_long : List ℕ → Bool
id_too_long id = ltb id_limit (length id)

-- The offsets of a table against the length of the longest id and the end of the byte slice, each with the next. Where there is no limit of
-- length, the end itself is handed over, which an id within the slice can't exceed.
unfoldable pub bad_offsets : ℕ → ℕ → List ℕ → Bool
bad_offsets longest end [] = false
bad_offsets longest end (a ∷ []) = ltb end a
bad_offsets longest end (a ∷ b ∷ rest) = ltb end a || (ltb b a || (ltb longest (b - a) || bad_offsets longest end (b ∷ rest)))
