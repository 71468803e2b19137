-- A set of a build that is divided, its subgroups merged: what the turns of the subgroups ask.
use Rattle.std.specs.Prelude.{ℕ, ◌*◌, ◌≤◌, List, ◌≡◌, Float, length}
use Rattle.emitting.specs.Emitted.{Work}
use Rattle.items.specs.Turn.{Tables}
use Rattle.running.specs.Turns.{SetTurning}
use Rattle.subgroups.specs.Merged.{Processed}

-- `order` has the set's positions by subgroup in the order of the turns, `rows` the united bits of each
pub record DividedReady (t : Tables) (bits : List ℕ) (number at : ℕ) (now : Work) (set : List ℕ) (threshold : Float)
    (rows order members : List ℕ) : Type 0 where
  pub turning : SetTurning t bits number at now set
  pub processed : Processed bits t.sizes set t.rank threshold rows order
  pub few : length set ≤ 4096
  pub positions : length order ≡ length set
  pub row_each : 4 * length set ≤ length rows
  pub space : length set ≤ length members
