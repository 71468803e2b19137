-- The groups of a build on their turns, one after another.
use Rattle.std.specs.Prelude.{ℕ, ◌<◌, ◌≡◌, length, get_or}
use mathlib.Core.List.{List, foldl}
use Rattle.options.specs.declared.Settings.{Settings}
use Rattle.grouping.specs.Given.{Given}
use Rattle.grouping.specs.Settings.{settings_of}
use Rattle.grouping.specs.Tree.{tree_of}
use Rattle.settling.specs.Traversal.{after_group}
use Rattle.emitting.specs.Emitted.{Work}
use Rattle.items.specs.Turn.{Tables}
use Rattle.sets.specs.OfBuild.{answers_of}
use Rattle.running.specs.Fits.{ItemFits, Walking, WalkFits}
use Rattle.running.specs.State.{Advance}
use Rattle.running.specs.Turns.{Turning}
use Rattle.turns.specs.Order.{AreSettings}

-- what a group is matched by: answers, and the modules' tags and share counts
pub record Asked : Type 0 where
  pub answers : List ℕ
  pub tags : List ℕ
  pub shares : List ℕ

-- ---- one group

-- a group of a build: its settings, its own row of answers, and the build's tables
pub record OneFits (b : Given) (w : Walking) (settings : Settings) (group : ℕ) (asked : Asked) : Type 0 where
  pub walks : WalkFits b w
  pub inside : group < b.variant.g
  pub settings_are : settings ≡ settings_of b group
  pub answers : asked.answers ≡ answers_of b group
  pub tags : asked.tags ≡ b.shared.tags
  pub shares : asked.shares ≡ b.shared.shares

pub record GroupTurning (t : Tables) (w : Walking) (bits : List ℕ) (settings : Settings) (group : ℕ) (asked : Asked)
    (number at : ℕ) (now : Work) : Type 0 where
  pub turning : Turning t bits number at now
  pub fits : OneFits turning.b w settings group asked

-- the group has had its turn
pub record GroupTurned (t : Tables) (w : Walking) (bits : List ℕ) (settings : Settings) (group : ℕ) (asked : Asked)
    (number at count : ℕ) (entry exit : Work) : Type 0 where
  pub advance : (b : Given) (start : ℕ) → ItemFits b t bits → OneFits b w settings group asked
      → Advance b start (λ chunks. after_group b.shared.k (settings_of b) (tree_of b) chunks group) number at count entry exit

-- ---- all groups

-- some groups of a build, in the order of their turns, and the settings and answers of all groups
pub record AllFit (b : Given) (w : Walking) (settings : List Settings) (turns : List ℕ) (asked : Asked) (n : ℕ) : Type 0 where
  pub walks : WalkFits b w
  pub modules : n ≡ b.shared.n
  pub inside : (i : ℕ) → i < length turns → get_or turns i 0 < b.variant.g
  pub settings_are : AreSettings settings b.variant.g (settings_of b)
  pub answers : asked.answers ≡ b.variant.answers
  pub tags : asked.tags ≡ b.shared.tags
  pub shares : asked.shares ≡ b.shared.shares

pub record GroupsTurning (t : Tables) (w : Walking) (bits : List ℕ) (settings : List Settings) (turns : List ℕ) (asked : Asked)
    (n number at : ℕ) (now : Work) : Type 0 where
  pub turning : Turning t bits number at now
  pub fits : AllFit turning.b w settings turns asked n

-- the groups have had their turns
pub record GroupsTurned (t : Tables) (w : Walking) (bits : List ℕ) (settings : List Settings) (turns : List ℕ) (asked : Asked)
    (n number at count : ℕ) (entry exit : Work) : Type 0 where
  pub advance : (b : Given) (start : ℕ) → ItemFits b t bits → AllFit b w settings turns asked n
      → Advance b start (λ chunks. foldl (after_group b.shared.k (settings_of b) (tree_of b)) chunks turns) number at count entry exit
