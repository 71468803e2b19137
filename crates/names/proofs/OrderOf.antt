-- The order of a build: its modules are few, each has a flag byte, and none stands in it twice.
use Prim.Native.Nat.{ℕ, ◌≤◌, ◌<◌}
use mathlib.Core.List.{List}
use mathlib.Core.Path.{ap}
use native.Mathlib.Omega.{arith}
use lib.ListN.{length, get_or}
use Rattle.lists.proofs.Position.{get_or_mem}
use Rattle.grouping.specs.Given.{Given}
use Rattle.grouping.specs.Tree.{places_of}
use Rattle.grouping_laws.proofs.Places.{places_mem}
use Rattle.settling.specs.Modules.{Passed, module_at}
use Rattle.linking.proofs.ChunkModules.{places_distinct}
use Rattle.running.specs.Fits.{Walking, WalkFits}
use Rattle.running.proofs.Tests.{passed_sound}
use Rattle.sets.specs.Gathered.{PlacesFree}
use Rattle.sets.proofs.FromPassed.{flag_bytes, places_few}

module _ {b : Given} {w : Walking} (ok : Passed b) (walks : WalkFits b w) where
  pub order_small : length w.order ≤ 4096
  order_small = omega (arith, places_few b ok, ap length walks.order)

  pub module_in : (i : ℕ) → i < length w.order → get_or w.order i 0 < length w.flags
  module_in = rw (walks.order, walks.flags) (λ i h. omega (arith, (places_mem b (module_at b i) (get_or_mem (places_of b) i 0 h)).0, flag_bytes b ok))

  pub places_free : {place : List ℕ} → length w.flags ≤ length place → ((m : ℕ) → get_or place m 0 < 4096) → PlacesFree w.order place
  places_free h s =
      record {
        few = order_small;
        distinct = rw walks.order (places_distinct b (passed_sound b ok));
        room = λ i l. omega (arith, module_in i l);
        small = s;
      }
