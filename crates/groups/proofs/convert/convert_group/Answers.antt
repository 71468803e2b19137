-- `groups::convert::convert_group` meets its contract: the group's matched modules are found, and its names have their turns.
-- ---- what is known once the group is matched
use Prim.Native.Nat.{◌≤◌}
use mathlib.Core.Path.{sym}
use native.Mathlib.Omega.{arith}
use lib.ListN.{length}
use lib.Seq.{length-take-le}
use Rattle.groups.proofs.GroupTurn.{group_ready, found_few, group_fits, group_turned}
use Rattle.groups.proofs.convert.convert_group.Goals as goal

pub match_group-count-requires : goal.match_group-count-requires
match_group-count-requires c =
    let p = c.requires.group_turning in
    group_ready p.turning.b p.turning.fits p.fits _ c.requires.names_room.1

pub slice_bounds-convert_names-end : goal.slice_bounds-convert_names-end
slice_bounds-convert_names-end c =
    let room : c.match_group-count.result ≤ length ((c.match_group-count.new.matched)) =
    let p = c.requires.group_turning in
    let few = found_few p.turning.b p.turning.fits p.fits c.match_group-count.ensures in
    omega (arith, few, c.match_group-count.auto.matched, c.requires.names_room.1) in
    room

pub slice_bounds-convert_names-end-2 : goal.slice_bounds-convert_names-end-2
slice_bounds-convert_names-end-2 c =
    let room : c.match_group-count.result ≤ length ((c.match_group-count.new.matched)) =
    let p = c.requires.group_turning in
    let few = found_few p.turning.b p.turning.fits p.fits c.match_group-count.ensures in
    omega (arith, few, c.match_group-count.auto.matched, c.requires.names_room.1) in
    sym (length-take-le c.match_group-count.result ((c.match_group-count.new.matched)) (room))

pub convert_names-requires : goal.convert_names-requires
convert_names-requires c =
    let p = c.requires.group_turning in
    let fits = group_fits p.turning.b p.turning.fits p.fits c.match_group-count.ensures in record { names_turning = record { turning = p.turning; fits = fits }; names_room = (c.requires.names_room.0, c.requires.names_room.2) }

pub returns : goal.returns
returns c =
    let kept = c.match_group-count.auto.matched in record { group_turned = group_turned c.match_group-count.ensures c.convert_names.ensures.names_turned; marks_len_unchanged = (c.convert_names.ensures.marks_len_unchanged.0, c.convert_names.ensures.marks_len_unchanged.1, kept, c.convert_names.ensures.marks_len_unchanged.2, c.convert_names.ensures.marks_len_unchanged.3, c.convert_names.ensures.marks_len_unchanged.4); same = c.convert_names.ensures.same }
