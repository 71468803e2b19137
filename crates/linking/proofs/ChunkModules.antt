-- The modules of the chunks of a build: no module is in two chunks, and a module's chunk is that of its place.
use Prim.Native.Nat.{ℕ, suc, ◌<◌}
use mathlib.Core.List.{List, [], ◌∷◌, map, Memᴰ}
use mathlib.Core.Path.{◌≡◌, refl, ap}
use native.Mathlib.Nat.{zero-add}
use native.Mathlib.Omega.{arith}
use borrow.Author.Tests.{ltb-true}
use lib.ListN.{length}
use Rattle.lists.proofs.Distinct.{Distinct}
use Rattle.lists.proofs.Sort.{pairs_weaker}
use Rattle.grouping.specs.Given.{Given}
use Rattle.grouping.specs.Tree.{places_of}
use Rattle.grouping.specs.ChunkList.{Chunk}
use Rattle.grouping.specs.Written.{chunk_number}
use Rattle.grouping_laws.proofs.Accepted.{Sound}
use Rattle.grouping_laws.proofs.ChunkPlaces.{Apart}
use Rattle.grouping_laws.proofs.Places.{order, places_mem, places_rise}
use Rattle.settling.specs.Modules.{module_at}
use Rattle.linking.specs.Made.{modules_of, modules_of_each}
use Rattle.linking.proofs.Modules.{modules_mem, elem_place, both_places}

module _ (b : Given) where
  -- no two places have the same module
  pub places_distinct : Sound b → Distinct (places_of b)
  places_distinct s = pairs_weaker (λ l m e q. omega (arith, ltb-true (order b l) (order b m) e, ap (order b) q)) (places_rise b s)

  -- the modules of a chunk are modules of the build
  pub chunk_module : (c : Chunk) (m : ℕ) → Memᴰ m (modules_of b c) → m < b.shared.n
  chunk_module c m i = (places_mem b m (modules_mem 0 c.places (places_of b) i)).0

  module _ (distinct : Distinct (places_of b)) where
    pub modules_apart : (c d : Chunk) → Apart c d → (m : ℕ) → Memᴰ m (modules_of b c) → Memᴰ m (modules_of b d) → ⊥
    modules_apart c d apart m i j = let o = both_places distinct c.places d.places m i j in apart o.0 o.1 o.2

    pub place_number : (p : ℕ) → p < length (places_of b) → (base : ℕ) (chunks : List Chunk)
        → chunk_number base (module_at b p) (modules_of_each b chunks) ≡ chunk_number base p (map (λ c. c.places) chunks)
    unfolding chunk_number
    place_number p h base [] = refl
    place_number p h base (c ∷ chunks) =
        rw (elem_place 0 c.places distinct p h, zero-add p, place_number p h (suc base) chunks)
