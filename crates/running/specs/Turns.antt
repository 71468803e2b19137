-- What a function asks that turns items into chunks, and what it leaves. The build and the chunks so far are handed over by no caller: a
-- function asks that there are some, and says for all of them where it gets to.
use Rattle.std.specs.Prelude.{ℕ, ◌≤◌, ◌≡◌, length}
use mathlib.Core.List.{List, foldl}
use Rattle.grouping_laws.proofs.SetPlaces.{Placed}
use Rattle.grouping.specs.Given.{Given}
use Rattle.grouping.specs.Tree.{Tree, tree_of, places_of}
use Rattle.grouping.specs.Item.{Item}
use Rattle.settling.specs.Modules.{modules_at}
use Rattle.settling.specs.Settled.{settled}
use Rattle.emitting.specs.Emitted.{Work}
use Rattle.items.specs.Turn.{Tables}
use Rattle.running.specs.Fits.{ItemFits}
use Rattle.running.specs.State.{Begun, Advance}

-- a build that the tables are of, and its chunks so far
pub record Turning (t : Tables) (bits : List ℕ) (number at : ℕ) (now : Work) : Type 0 where
  pub b : Given
  pub start : ℕ
  pub fits : ItemFits b t bits
  pub begun : Begun b start number at now
  pub small : b.on_entry ≤ 69631

-- a set of such a build: the modules at some places
pub record SetTurning (t : Tables) (bits : List ℕ) (number at : ℕ) (now : Work) (set : List ℕ) : Type 0 where
  pub turning : Turning t bits number at now
  pub places : List ℕ
  pub placed : Placed (length (places_of turning.b)) places
  pub are : set ≡ modules_at turning.b places

-- the items of the set have had their turns, and `count` chunks were made
pub record SetTurned (t : Tables) (bits set : List ℕ) (items : Tree → List ℕ → List Item) (number at count : ℕ) (entry exit : Work) : Type 0 where
  pub advance : (b : Given) (start : ℕ) (places : List ℕ) → ItemFits b t bits → Placed (length (places_of b)) places → set ≡ modules_at b places
      → Advance b start (λ chunks. foldl (settled (tree_of b)) chunks (items (tree_of b) places)) number at count entry exit
