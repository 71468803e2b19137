-- `name_tables::conditions::unordered_names` meets its contract. The invariant: the test of the names from k - 1 on gives what the whole test gives.
use Prim.Native.Nat.{◌-◌}
use mathlib.Core.Path.{◌≡◌}
use lib.ListN.{drop}
use Rattle.name_tables.specs.Names.{names_of}
use Rattle.name_tables.specs.Conditions.{unordered}
use Rattle.name_tables.proofs.conditions.unordered_names.Given as goal

abbrev pub invariant-loop-k : goal.invariant-loop-k
invariant-loop-k l =
    unordered (drop (l.k - 1) (names_of l.count l.bytes l.offsets)) ≡ unordered (names_of l.count l.bytes l.offsets)
