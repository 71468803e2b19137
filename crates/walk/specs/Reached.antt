-- What is reached from some modules through eligible ones only, over any eligibility and any "names as a dependency".
use Rattle.std.specs.Prelude.{ℕ, ◌<◌, ◌⊎◌, List, ◌≡◌, get_or}

pub data Reached (eligible : ℕ → Type 0) (names : ℕ → ℕ → Type 0) (starts : ℕ → Type 0) : ℕ → Type 0 where
  start : {m : ℕ} → starts m → eligible m → Reached eligible names starts m
  further : {m d : ℕ} → Reached eligible names starts m → names m d → eligible d → Reached eligible names starts d

-- "Writes one byte per module, 1 or 0": 1 for the modules below n of which P holds
pub record Marks (P : ℕ → Type 0) (n : ℕ) (marks : List ℕ) : Type 0 where
  pub each : (m : ℕ) → m < n → ((get_or marks m 0 ≡ 1) × P m) ⊎ ((get_or marks m 0 ≡ 0) × (P m → ⊥))
