-- `walk::four::visit_two` meets its contract.
use mathlib.Core.List.Memᴰ
use mathlib.Core.List.{[], ◌∷◌}
use mathlib.Core.Path.{refl}
use native.Mathlib.Omega.{arith}
use Rattle.walk.proofs.SideBySide.{first_ready, more_ready}
use Rattle.walk.proofs.four.visit_two.Goals as goal

pub offset_bounds-dependency-a : goal.offset_bounds-dependency-a
offset_bounds-dependency-a c = omega (arith, c.requires.record_in c.args.a (Memᴰ.head refl))

pub bounds-dependency-a : goal.bounds-dependency-a
bounds-dependency-a c = omega (arith, c.requires.record_in c.args.a (Memᴰ.head refl))

pub visit-found-requires : goal.visit-found-requires
visit-found-requires c = first_ready c.requires

pub offset_bounds-dependency-b : goal.offset_bounds-dependency-b
offset_bounds-dependency-b c = omega (arith, c.requires.record_in c.args.b (Memᴰ.tail (Memᴰ.head refl)))

pub bounds-dependency-b : goal.bounds-dependency-b
bounds-dependency-b c = omega (arith, c.requires.record_in c.args.b (Memᴰ.tail (Memᴰ.head refl)))

pub visit-requires : goal.visit-requires
visit-requires c =
    first_ready (more_ready (c.args.a ∷ []) (c.args.b ∷ []) c.requires c.visit-found.ensures)

pub returns : goal.returns
returns c = rw c.visit-found.ensures c.visit.ensures
