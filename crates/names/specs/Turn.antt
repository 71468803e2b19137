-- The sets of one group on their turns, name by name.
use Rattle.std.specs.Prelude.{ℕ, ◌*◌, ◌≤◌, ◌<◌, Bool, true, ◌≡◌, length}
use mathlib.Core.List.{List, foldl}
use Rattle.forget.specs.Unfollowed.{unfollowed}
use Rattle.options.specs.declared.Settings.{Settings}
use Rattle.grouping.specs.Given.{Given}
use Rattle.grouping.specs.Settings.{settings_of}
use Rattle.grouping.specs.Tree.{Tree, tree_of, places_of}
use Rattle.grouping.specs.Item.{Item}
use Rattle.grouping_laws.proofs.SetPlaces.{Placed}
use Rattle.settling.specs.Modules.{modules_at}
use Rattle.settling.specs.Settled.{settled}
use Rattle.settling.specs.Traversal.{names_of, after_name}
use Rattle.emitting.specs.Emitted.{Work, HasEntry}
use Rattle.left.specs.Untaken.{untaken}
use Rattle.items.specs.Turn.{Tables}
use Rattle.sets.specs.Gathered.{PlacesAre}
use Rattle.sets.specs.OfBuild.{matched_of}
use Rattle.running.specs.Fits.{ItemFits, Walking, WalkFits}
use Rattle.running.specs.State.{Advance}
use Rattle.running.specs.Turns.{Turning}

-- A list that stands for the modules at some places: it is these modules, or, where sets are not divided by their entries, it may lack some that
-- have a chunk.
pub record Stands (b : Given) (aware : Bool) (chunk_of set places : List ℕ) : Type 0 where
  pub whole : aware ≡ true → set ≡ modules_at b places
  pub left : untaken chunk_of set ≡ untaken chunk_of (modules_at b places)

-- a set of a build on its turn
pub record SetOffered (t : Tables) (bits : List ℕ) (aware : Bool) (number at : ℕ) (now : Work) (set : List ℕ) : Type 0 where
  pub turning : Turning t bits number at now
  pub places : List ℕ
  pub placed : Placed (length (places_of turning.b)) places
  pub stands : Stands turning.b aware now.chunk_of set places
  pub numbered : HasEntry now.chunk_of set

-- the items of the set have had their turns, and `count` chunks were made
pub record SetTaken (t : Tables) (bits : List ℕ) (aware : Bool) (set : List ℕ) (items : Tree → List ℕ → List Item) (number at count : ℕ)
    (entry exit : Work) : Type 0 where
  pub advance : (b : Given) (start : ℕ) (places : List ℕ) → ItemFits b t bits → Placed (length (places_of b)) places
      → Stands b aware entry.chunk_of set places
      → Advance b start (λ chunks. foldl (settled (tree_of b)) chunks (items (tree_of b) places)) number at count entry exit

-- a group of a build, and its matched modules by name
pub record GroupFits (b : Given) (w : Walking) (settings : Settings) (group : ℕ) (matched : List ℕ) : Type 0 where
  pub walks : WalkFits b w
  pub inside : group < b.variant.g
  pub settings_are : settings ≡ settings_of b group
  pub matched_are : matched ≡ matched_of b group

-- a group on its turn
pub record NamesTurning (t : Tables) (w : Walking) (bits : List ℕ) (settings : Settings) (group : ℕ) (matched : List ℕ) (number at : ℕ) (now : Work)
    : Type 0 where
  pub turning : Turning t bits number at now
  pub fits : GroupFits turning.b w settings group matched

-- the work tables are as long as the modules need, each module's place is known, and no record is marked as followed
pub record NamesRoom (n : ℕ) (flags order place marks followed set scratch : List ℕ) : Type 0 where
  pub few : n ≤ 4096
  pub modules : length flags ≡ n
  pub places : PlacesAre order place
  pub place_room : n ≤ length place
  pub mark_bytes : length marks ≡ n
  pub set_room : n ≤ length set
  pub scratch_room : 3 * n ≤ length scratch
  pub clear : followed ≡ unfollowed

-- the sets of the group's names have had their turns
pub record NamesTurned (t : Tables) (w : Walking) (bits : List ℕ) (settings : Settings) (group : ℕ) (matched : List ℕ) (number at count : ℕ)
    (entry exit : Work) : Type 0 where
  pub advance : (b : Given) (start : ℕ) → ItemFits b t bits → GroupFits b w settings group matched
      → Advance b start
      (λ chunks. foldl (after_name settings group (tree_of b)) chunks (names_of b.shared.k settings group (tree_of b))) number at count entry exit
