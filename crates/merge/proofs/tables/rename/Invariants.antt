-- `merge::tables::rename` meets its contract: one number more is renamed a turn, the rest are as they were.
use mathlib.Core.List.{map}
use Rattle.lists.proofs.Front.{Copied}
use Rattle.merge.specs.Engine.{renamed}
use Rattle.merge.proofs.tables.rename.Given as goal

abbrev pub invariant-loop-number : goal.invariant-loop-number
invariant-loop-number l = Copied (map (renamed l.from l.to) l.initial.numbers) l.initial.numbers l.numbers l.number-index
