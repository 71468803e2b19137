-- `entries_aware::convert_divided` meets its contract. The loop's invariant: the subgroups whose runs are passed have had their turns.
use Rattle.std.proofs.Common.{◌≡◌, ℕ, ◌-◌, List, length}
use lib.Ieee.{Float}
use Rattle.emitting.specs.Emitted.{SameAreas, work}
use Rattle.items.specs.Turn.{Tables}
use Rattle.entries_aware.proofs.Runs.{Walked}
use Rattle.entries_aware.proofs.convert_divided.Given as goal

abbrev tables : List ℕ → List ℕ → List ℕ → List ℕ → Tables
tables bytes offsets sizes rank = record { bytes = bytes; offsets = offsets; sizes = sizes; rank = rank }

abbrev pub invariant-loop-from : goal.invariant-loop-from
invariant-loop-from l =
    Walked l.settings l.group l.name (tables l.ids.bytes.now l.ids.offsets.now l.sizes l.rank) l.bits l.set l.kind_bits l.divided l.number.0 l.at
    (work l.initial.areas) l.from l.made (work l.areas)
    × (length l.list ≡ 4096) × (length l.members ≡ length l.initial.members) × SameAreas l.initial.areas l.areas

abbrev pub decreases-loop-from : goal.decreases-loop-from
decreases-loop-from l = length l.divided - l.from
