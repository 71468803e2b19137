-- A group of a build that passed the tests can be matched.
use Prim.Native.Nat.{ℕ, ◌≤◌, ◌<◌}
use mathlib.Core.List.{List}
use lib.ListN.{length}
use Rattle.lists.proofs.Position.{get_or_mem}
use Rattle.grouping.specs.Given.{Given}
use Rattle.grouping.specs.Tree.{places_of}
use Rattle.grouping_laws.proofs.Places.{places_mem}
use Rattle.settling.specs.Modules.{Passed, module_at}
use Rattle.matching.specs.Matched.{Matchable}
use Rattle.sets.specs.OfBuild.{matching_of}
use Rattle.sets.proofs.FromPassed.{places_few, readable}

module _ (b : Given) (ok : Passed b) (g : ℕ) (h : g < b.variant.g) where
  pub group_ready : {matched : List ℕ} → length (places_of b) ≤ length matched → Matchable (matching_of b g) (places_of b) matched
  group_ready m =
      record {
        few = places_few b ok;
        readable = λ p u. let i = places_mem b (module_at b p) (get_or_mem (places_of b) p 0 u) in readable b ok g h (module_at b p) i.0 i.1;
        room = m;
      }
