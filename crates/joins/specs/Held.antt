-- The subgroup that a value holds, and the one that is left of it once it has joined another.
use Rattle.whole.specs.Double.{to_f64}
use Rattle.bitset.specs.Entries.{empty}
use Rattle.joins.specs.Subgroup.{Subgroup}
use Rattle.joins.specs.declared.subgroup.Subgroup.{Subgroup as Held}

-- the subgroup that a value holds
abbrev pub held : Held → Subgroup
held s = record { number = s.number; size = s.size; bits = s.bits }

-- what is left of a subgroup that has joined another
abbrev pub vanished : Subgroup → Subgroup
vanished s = record { number = s.number; size = to_f64 0; bits = empty }
