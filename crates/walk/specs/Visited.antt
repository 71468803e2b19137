-- What is left of a walk by visits of several modules, in whichever order.
use Rattle.std.specs.Prelude.{ℕ, ◌≤◌, ◌<◌, ◌⊎◌, ◌≡◌, length, get_or}
use mathlib.Core.List.{List, Memᴰ}
use Rattle.walk.specs.Names.{Eligible}
use Rattle.walk.specs.Walk.{Walk, WalkState}

-- What visiting the modules ks makes of w: marks and list go on agreeing, what was marked or listed stays, and newly marked are just the eligible
-- among ks.
pub record Visited (flags : List ℕ) (n : ℕ) (ks : List ℕ) (w w' : Walk) : Type 0 where
  pub state : WalkState flags n w'
  pub marks_stay : (m : ℕ) → get_or w.marks m 0 ≡ 1 → get_or w'.marks m 0 ≡ 1
  pub places_stay : (i : ℕ) → i < w.tail → get_or w'.queue i 0 ≡ get_or w.queue i 0
  pub longer : w.tail ≤ w'.tail
  pub queue_length : length w'.queue ≡ length w.queue
  pub all : (k : ℕ) → Memᴰ k ks → Eligible flags k → get_or w'.marks k 0 ≡ 1
  pub only : (m : ℕ) → get_or w'.marks m 0 ≡ 1 → (get_or w.marks m 0 ≡ 1) ⊎ (Memᴰ m ks × Eligible flags m)
