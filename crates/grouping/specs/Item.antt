-- A work item: a set of places with a group, a name and a subgroup number, and the settings of its group.
use Rattle.std.specs.Prelude.{ℕ, List}
use Rattle.std.proofs.Math.Option.{Option}
use Rattle.bitset.specs.declared.entries.BitSet.{BitSet}
use Rattle.options.specs.declared.Settings.{Settings}

-- `bits` are the subgroup's bits of an entries-aware item; `places` ascend, so they stand in execution order
pub record Item : Type 0 where
  pub group : ℕ
  pub name : ℕ
  pub subgroup : ℕ
  pub settings : Settings
  pub bits : Option BitSet
  pub places : List ℕ

-- the item with other places
abbrev pub with_places : List ℕ → Item → Item
with_places places i = record { group = i.group; name = i.name; subgroup = i.subgroup; settings = i.settings; bits = i.bits; places = places }
