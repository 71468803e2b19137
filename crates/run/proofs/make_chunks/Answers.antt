-- `run::make_chunks` meets its contract: the groups are put in order, the chunk numbers cleared, and the groups have their turns.
use Prim.Native.Nat.{ℕ}
use mathlib.Core.List.{List, ◌++◌}
use mathlib.Core.Path.{sym}
use lib.ListN.{drop, replicate}
use lib.Seq.{length-take-le}
use Rattle.sets.proofs.Building.{front_room}
use Rattle.run.proofs.Making.{turns_are, fresh_areas, making_groups, making_modules, groups_turning, all_made}
use Rattle.run.proofs.make_chunks.Goals as goal

-- the table of turns
abbrev zeros : List ℕ
zeros = replicate 64 0

pub slice_bounds-turns-end : goal.slice_bounds-turns-end
slice_bounds-turns-end c = making_groups c.requires

pub slice_bounds-into_priority_sorted_groups-end : goal.slice_bounds-into_priority_sorted_groups-end
slice_bounds-into_priority_sorted_groups-end c = sym (length-take-le c.args.g zeros (making_groups c.requires))

pub into_priority_sorted_groups-requires : goal.into_priority_sorted_groups-requires
into_priority_sorted_groups-requires c = rw (length-take-le c.args.g zeros (making_groups c.requires)) (making_groups c.requires)

pub slice_bounds-turns-end-2 : goal.slice_bounds-turns-end-2
slice_bounds-turns-end-2 c =
    front_room zeros c.into_priority_sorted_groups.new.turns c.args.g c.into_priority_sorted_groups.auto.turns (making_groups c.requires)

pub slice_bounds-convert_groups_to_chunks-end : goal.slice_bounds-convert_groups_to_chunks-end
slice_bounds-convert_groups_to_chunks-end c =
    sym (length-take-le c.args.g (c.into_priority_sorted_groups.new.turns ++ drop c.args.g zeros)
    (front_room zeros c.into_priority_sorted_groups.new.turns c.args.g c.into_priority_sorted_groups.auto.turns (making_groups c.requires)))

pub clear_numbers-requires : goal.clear_numbers-requires
clear_numbers-requires c = making_modules c.requires

pub convert_groups_to_chunks-requires : goal.convert_groups_to_chunks-requires
convert_groups_to_chunks-requires c =
    let p = c.requires in
    let in_order =
    turns_are p.b _ _ p.fits.tables zeros c.into_priority_sorted_groups.new.turns (making_groups p) c.into_priority_sorted_groups.auto.turns
    c.into_priority_sorted_groups.ensures in
    let fresh = fresh_areas p.b _ _ _ p.fits.tables.modules p.room.modules c.clear_numbers.ensures in
    record { groups_turning = groups_turning p.b _ _ p.fits _ in_order _ _ _ fresh p.room p.small; n_in_bounds = p.work }

pub returns-clause-emitted : goal.returns-clause-emitted
returns-clause-emitted c =
    record {
      of_build = λ b fits room.
          let in_order =
          turns_are b _ _ fits.tables zeros c.into_priority_sorted_groups.new.turns (making_groups c.requires)
          c.into_priority_sorted_groups.auto.turns c.into_priority_sorted_groups.ensures in
          let fresh = fresh_areas b _ _ _ fits.tables.modules room.modules c.clear_numbers.ensures in
          all_made b _ _ fits _ in_order _ _ _ fresh room _ _ c.convert_groups_to_chunks.ensures.groups_turned;
    }
