-- What several modules capture together.
use Rattle.std.specs.Prelude.{ℕ, ◌-◌, ◌≤◌, ◌<◌, ◌≡◌, length, get_or, replicate}
use mathlib.Core.List.{List, Memᴰ}
use Rattle.forget.specs.Unfollowed.{unfollowed}
use Rattle.walk.specs.Reached.{Reached, Marks}
use Rattle.walk.specs.Names.{Eligible, Names}
use Rattle.walk.specs.Walk.{Walk, WalkTables, WalkState}

-- each start is one of the n modules
abbrev pub StartsIn : List ℕ → ℕ → Type 0
StartsIn starts n = (i : ℕ) → i < length starts → get_or starts i 0 < n

-- nothing is on the list yet
pub record StartsReady (flags starts marks queue : List ℕ) : Type 0 where
  pub state : WalkState flags (length flags) (record { marks = marks; queue = queue; tail = 0 })
  pub starts_in : StartsIn starts (length flags)

-- what a walk from the starts needs; nothing is marked
pub record AllReady (flags first dependency next starts marks queue followed : List ℕ) : Type 0 where
  pub tables : WalkTables flags first dependency next (length flags) (length next - 1)
  pub starts_in : StartsIn starts (length flags)
  pub unmarked : marks ≡ replicate (length flags) 0
  pub room : length flags ≤ length queue
  pub clear : followed ≡ unfollowed

-- the captures of the starts, taken together
abbrev pub AllCaptured : List ℕ → List ℕ → List ℕ → List ℕ → List ℕ → List ℕ → Type 0
AllCaptured flags first dependency next starts marks =
    Marks (Reached (Eligible flags) (Names first dependency next (length next - 1)) (λ m. Memᴰ m starts)) (length flags) marks

-- they are marked, and just these are on the list; if it is as long as with the starts alone, only starts are marked
pub record AllFound (flags first dependency next starts : List ℕ) (started : ℕ) (w : Walk) : Type 0 where
  pub captured : AllCaptured flags first dependency next starts w.marks
  pub state : WalkState flags (length flags) w
  pub alone : started ≡ w.tail → (m : ℕ) → m < length flags → get_or w.marks m 0 ≡ 1 → Memᴰ m starts
