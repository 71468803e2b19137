-- The start of a capture.
use Rattle.std.specs.Prelude.{ℕ, ◌≤◌, ◌<◌, List, ◌≡◌, length}
use Rattle.walk.specs.Walk.{WalkTables}

-- what a walk from one module needs
pub record StartReady (flags first dependency next : List ℕ) (n d from : ℕ) (marks queue : List ℕ) : Type 0 where
  pub tables : WalkTables flags first dependency next n d
  pub start_in : from < n
  pub mark_bytes : length marks ≡ n
  pub room : n ≤ length queue
