-- Bytes put behind others in an area, as far as there is room.
use Rattle.std.specs.Prelude.{ℕ, ◌+◌, ◌-◌, List, ◌≡◌, length, take}
use Rattle.lists.specs.Area.{placed}

-- as much of a part as there is room for behind the first bytes
abbrev pub fitting : List ℕ → ℕ → List ℕ → List ℕ
fitting area at part = take (length area - at) part

-- the area after it, and where what it holds ends
pub record Appended (before : List ℕ) (at : ℕ) (part : List ℕ) (end : ℕ) (after : List ℕ) : Type 0 where
  pub ends : end ≡ at + length (fitting before at part)
  pub bytes : after ≡ placed at (fitting before at part) before
