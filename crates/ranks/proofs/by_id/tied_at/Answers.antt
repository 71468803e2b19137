-- `ranks::by_id::tied_at` meets its contract: the two ids are compared.
use Prim.Native.Nat.{◌+◌}
use mathlib.Core.Path.{ap₂, ◌∙◌}
use native.Mathlib.Omega.{arith}
use Rattle.lists.specs.Same.{same_numbers}
use Rattle.orders.proofs.Naming.{place_in_table}
use Rattle.ranks.specs.ById.{tied_at}
use Rattle.ranks.proofs.SameIds.{compared_same}
use Rattle.ranks.proofs.by_id.tied_at.Goals as goal

pub id_at-lhs-requires : goal.id_at-lhs-requires
id_at-lhs-requires c =
    place_in_table _ _ c.args.list.now c.requires.0 c.args.i (omega arith)

pub id_at-rhs-requires : goal.id_at-rhs-requires
id_at-rhs-requires c =
    place_in_table _ _ c.args.list.now c.requires.0 (c.args.i + 1) (omega arith)

pub returns : goal.returns
unfolding tied_at
returns c = compared_same _ c.same_id.ensures ∙ ap₂ same_numbers c.id_at-lhs.ensures c.id_at-rhs.ensures
