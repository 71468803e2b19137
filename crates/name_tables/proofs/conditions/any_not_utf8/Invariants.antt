-- `name_tables::conditions::any_not_utf8` meets its contract. The invariant: the test of the names from k on gives what the whole test gives.
use mathlib.Core.Path.{◌≡◌}
use lib.ListN.{drop}
use Rattle.name_tables.specs.Names.{names_of}
use Rattle.name_tables.specs.Conditions.{any_not_utf8}
use Rattle.name_tables.proofs.conditions.any_not_utf8.Given as goal

abbrev pub invariant-loop-k : goal.invariant-loop-k
invariant-loop-k l =
    any_not_utf8 (drop l.k (names_of l.count l.bytes l.offsets)) ≡ any_not_utf8 (names_of l.count l.bytes l.offsets)
