-- The two searches find the definition's next join: where one finds nothing there is none, else it is made, the word beside the target is written
-- again, and the two blocks that the join changes are looked through again.
use Prim.Native.Nat.{◌-◌}
use mathlib.Core.Path.{◌≡◌, sym, ap, ◌∙◌}
use native.Mathlib.Omega.{arith}
use lib.ListN.{length, take}
use lib.Seq.{length-take-le}
use Rattle.joins.specs.Held.{held}
use Rattle.seeking.specs.Listed.{FirstWords}
use Rattle.seeking.proofs.Removing.{but_one}
use Rattle.merge.proofs.Turning.{reads_heads, turn_without_seeker, seeker_row, seeker_listed, seeker_removed, reads_left, turn_without_target}
use Rattle.merge.proofs.Turning.{target_row, join_fits, rewrite_fits, refresh_fits, turn_with_join}
use Rattle.merge.proofs.engine.join_next.Goals as goal

-- ---- the answers
pub find_seeker-requires : goal.find_seeker-requires
find_seeker-requires c =
    let a = c.args in
    reads_heads a.threshold a.numbers.now a.sizes.now a.bits.now a.there.now a.heads.now c.requires.0 c.requires.1 c.requires.2

pub slice_bounds-find_target-end-2 : goal.slice_bounds-find_target-end-2
slice_bounds-find_target-end-2 c =
    sym (length-take-le (length c.remove.new.list - 1) c.remove.new.list (omega arith))

pub slice_bounds-rewrite_word-end-2 : goal.slice_bounds-rewrite_word-end-2
slice_bounds-rewrite_word-end-2 c =
    sym (length-take-le (length c.remove.new.list - 1) c.remove.new.list (omega arith))

pub shape_of-there : goal.shape_of-there
shape_of-there c =
    c.remove.auto.list

pub shape_of-words : goal.shape_of-words
shape_of-words c =
    c.rewrite_word.auto.words ∙ c.remove.auto.words

pub returns-in_default : goal.returns-in_default
returns-in_default c =
    let a = c.args in
    turn_without_seeker a.threshold a.numbers.now a.sizes.now a.bits.now a.there.now a.heads.now c.requires.0 c.requires.1 c.requires.2
    c.find_seeker.result c.find_seeker.ensures c.in_default.is a.words.now

pub subgroup_at-joining-requires : goal.subgroup_at-joining-requires
subgroup_at-joining-requires c =
    let a = c.args in
    let row = seeker_row a.threshold a.numbers.now a.sizes.now a.bits.now a.there.now a.heads.now c.requires.0 c.requires.1 c.requires.2
    c.find_seeker.result c.find_seeker.ensures c.in-Some.seeker c.in-Some.is in record { in_row = row.1; i_bound = row.2 }

pub overflow_cast-from : goal.overflow_cast-from
overflow_cast-from c =
    let a = c.args in
    let row = seeker_row a.threshold a.numbers.now a.sizes.now a.bits.now a.there.now a.heads.now c.requires.0 c.requires.1 c.requires.2
    c.find_seeker.result c.find_seeker.ensures c.in-Some.seeker c.in-Some.is in
    omega (arith, row.0, c.requires.0.tables.count)

pub remove-requires : goal.remove-requires
remove-requires c =
    let a = c.args in
    let on_List = seeker_listed a.threshold a.numbers.now a.sizes.now a.bits.now a.there.now a.heads.now c.requires.0 c.requires.1 c.requires.2
    c.find_seeker.result c.find_seeker.ensures c.in-Some.seeker c.in-Some.is in
    (on_List.0, on_List.1, c.requires.4)

pub find_target-requires : goal.find_target-requires
find_target-requires c =
    let a = c.args in
    let gone : (take (length c.remove.new.list - 1) c.remove.new.list ≡ but_one c.in-Some.seeker.number c.args.there.now)
    × FirstWords (take (length c.remove.new.list - 1) c.remove.new.list) c.remove.new.words c.args.bits.now =
    seeker_removed a.threshold a.numbers.now a.sizes.now a.bits.now a.there.now a.heads.now c.requires.0 c.requires.1 c.requires.2
    c.find_seeker.result c.find_seeker.ensures c.in-Some.seeker c.in-Some.is
    a.words.now c.remove.new.list c.remove.new.words c.requires.3 c.requires.4 c.remove.auto.list c.remove.auto.words c.remove.ensures in
    reads_left a.threshold a.numbers.now a.sizes.now a.bits.now a.there.now a.heads.now c.requires.0 c.requires.1 c.requires.2
    c.find_seeker.result c.find_seeker.ensures c.in-Some.seeker c.in-Some.is
    (held c.subgroup_at-joining.result) c.subgroup_at-joining.ensures _ gone.0 c.remove.new.words gone.1

pub returns-in_default-find_target : goal.returns-in_default-find_target
returns-in_default-find_target c =
    let a = c.args in
    let gone : (take (length c.remove.new.list - 1) c.remove.new.list ≡ but_one c.in-Some.seeker.number c.args.there.now)
    × FirstWords (take (length c.remove.new.list - 1) c.remove.new.list) c.remove.new.words c.args.bits.now =
    seeker_removed a.threshold a.numbers.now a.sizes.now a.bits.now a.there.now a.heads.now c.requires.0 c.requires.1 c.requires.2
    c.find_seeker.result c.find_seeker.ensures c.in-Some.seeker c.in-Some.is
    a.words.now c.remove.new.list c.remove.new.words c.requires.3 c.requires.4 c.remove.auto.list c.remove.auto.words c.remove.ensures in
    turn_without_target a.threshold a.numbers.now a.sizes.now a.bits.now a.there.now a.heads.now c.requires.0 c.requires.1 c.requires.2
    c.find_seeker.result c.find_seeker.ensures c.in-Some.seeker c.in-Some.is
    (held c.subgroup_at-joining.result) c.subgroup_at-joining.ensures _ gone.0
    c.find_target.result c.find_target.ensures c.in_default-find_target.is c.remove.new.list c.remove.new.words

pub subgroup_at-joined-requires : goal.subgroup_at-joined-requires
subgroup_at-joined-requires c =
    let a = c.args in
    let gone : (take (length c.remove.new.list - 1) c.remove.new.list ≡ but_one c.in-Some.seeker.number c.args.there.now)
    × FirstWords (take (length c.remove.new.list - 1) c.remove.new.list) c.remove.new.words c.args.bits.now =
    seeker_removed a.threshold a.numbers.now a.sizes.now a.bits.now a.there.now a.heads.now c.requires.0 c.requires.1 c.requires.2
    c.find_seeker.result c.find_seeker.ensures c.in-Some.seeker c.in-Some.is
    a.words.now c.remove.new.list c.remove.new.words c.requires.3 c.requires.4 c.remove.auto.list c.remove.auto.words c.remove.ensures in
    let row = target_row a.threshold a.numbers.now a.sizes.now a.bits.now a.there.now a.heads.now c.requires.0 c.requires.1 c.requires.2
    c.find_seeker.result c.find_seeker.ensures c.in-Some.seeker c.in-Some.is
    (held c.subgroup_at-joining.result) c.subgroup_at-joining.ensures _ gone.0
    c.find_target.result c.find_target.ensures c.in-Some-find_target.target c.in-Some-find_target.is in
    record { in_row = row.0; i_bound = row.1 }

pub join-requires : goal.join-requires
join-requires c =
    let a = c.args in
    let gone : (take (length c.remove.new.list - 1) c.remove.new.list ≡ but_one c.in-Some.seeker.number c.args.there.now)
    × FirstWords (take (length c.remove.new.list - 1) c.remove.new.list) c.remove.new.words c.args.bits.now =
    seeker_removed a.threshold a.numbers.now a.sizes.now a.bits.now a.there.now a.heads.now c.requires.0 c.requires.1 c.requires.2
    c.find_seeker.result c.find_seeker.ensures c.in-Some.seeker c.in-Some.is
    a.words.now c.remove.new.list c.remove.new.words c.requires.3 c.requires.4 c.remove.auto.list c.remove.auto.words c.remove.ensures in
    join_fits a.threshold a.numbers.now a.sizes.now a.bits.now a.there.now a.heads.now c.requires.0 c.requires.1 c.requires.2
    c.find_seeker.result c.find_seeker.ensures c.in-Some.seeker c.in-Some.is
    (held c.subgroup_at-joining.result) c.subgroup_at-joining.ensures _ gone.0
    c.find_target.result c.find_target.ensures c.in-Some-find_target.target c.in-Some-find_target.is (held c.subgroup_at-joined.result) c.subgroup_at-joined.ensures

pub rewrite_word-requires : goal.rewrite_word-requires
rewrite_word-requires c =
    let a = c.args in
    let gone : (take (length c.remove.new.list - 1) c.remove.new.list ≡ but_one c.in-Some.seeker.number c.args.there.now)
    × FirstWords (take (length c.remove.new.list - 1) c.remove.new.list) c.remove.new.words c.args.bits.now =
    seeker_removed a.threshold a.numbers.now a.sizes.now a.bits.now a.there.now a.heads.now c.requires.0 c.requires.1 c.requires.2
    c.find_seeker.result c.find_seeker.ensures c.in-Some.seeker c.in-Some.is
    a.words.now c.remove.new.list c.remove.new.words c.requires.3 c.requires.4 c.remove.auto.list c.remove.auto.words c.remove.ensures in
    let fits = rewrite_fits a.threshold a.numbers.now a.sizes.now a.bits.now a.there.now a.heads.now c.requires.0 c.requires.1 c.requires.2
    c.find_seeker.result c.find_seeker.ensures c.in-Some.seeker c.in-Some.is
    (held c.subgroup_at-joining.result) c.subgroup_at-joining.ensures _ gone.0
    c.find_target.result c.find_target.ensures c.in-Some-find_target.target c.in-Some-find_target.is (held c.subgroup_at-joined.result) c.subgroup_at-joined.ensures
    c.join.new.numbers c.join.new.sizes c.join.new.bits c.join.ensures in
    (fits.0, fits.1, gone.1.room, fits.2, fits.3)

pub refresh-requires : goal.refresh-requires
refresh-requires c =
    let a = c.args in
    let gone : (take (length c.remove.new.list - 1) c.remove.new.list ≡ but_one c.in-Some.seeker.number c.args.there.now)
    × FirstWords (take (length c.remove.new.list - 1) c.remove.new.list) c.remove.new.words c.args.bits.now =
    seeker_removed a.threshold a.numbers.now a.sizes.now a.bits.now a.there.now a.heads.now c.requires.0 c.requires.1 c.requires.2
    c.find_seeker.result c.find_seeker.ensures c.in-Some.seeker c.in-Some.is
    a.words.now c.remove.new.list c.remove.new.words c.requires.3 c.requires.4 c.remove.auto.list c.remove.auto.words c.remove.ensures in
    let fits = refresh_fits a.threshold a.numbers.now a.sizes.now a.bits.now a.there.now a.heads.now c.requires.0 c.requires.1 c.requires.2
    c.find_seeker.result c.find_seeker.ensures c.in-Some.seeker c.in-Some.is
    (held c.subgroup_at-joining.result) c.subgroup_at-joining.ensures _ gone.0
    c.find_target.result c.find_target.ensures c.in-Some-find_target.target c.in-Some-find_target.is (held c.subgroup_at-joined.result) c.subgroup_at-joined.ensures
    c.join.new.numbers c.join.new.sizes c.join.new.bits c.join.ensures in
    (fits.0, fits.1, fits.2, fits.4)

pub refresh-requires-2 : goal.refresh-requires-2
refresh-requires-2 c =
    let a = c.args in
    let gone : (take (length c.remove.new.list - 1) c.remove.new.list ≡ but_one c.in-Some.seeker.number c.args.there.now)
    × FirstWords (take (length c.remove.new.list - 1) c.remove.new.list) c.remove.new.words c.args.bits.now =
    seeker_removed a.threshold a.numbers.now a.sizes.now a.bits.now a.there.now a.heads.now c.requires.0 c.requires.1 c.requires.2
    c.find_seeker.result c.find_seeker.ensures c.in-Some.seeker c.in-Some.is
    a.words.now c.remove.new.list c.remove.new.words c.requires.3 c.requires.4 c.remove.auto.list c.remove.auto.words c.remove.ensures in
    let fits = refresh_fits a.threshold a.numbers.now a.sizes.now a.bits.now a.there.now a.heads.now c.requires.0 c.requires.1 c.requires.2
    c.find_seeker.result c.find_seeker.ensures c.in-Some.seeker c.in-Some.is
    (held c.subgroup_at-joining.result) c.subgroup_at-joining.ensures _ gone.0
    c.find_target.result c.find_target.ensures c.in-Some-find_target.target c.in-Some-find_target.is (held c.subgroup_at-joined.result) c.subgroup_at-joined.ensures
    c.join.new.numbers c.join.new.sizes c.join.new.bits c.join.ensures in
    (fits.0, fits.1, fits.3, omega (arith, fits.4, c.refresh.auto.heads))

pub returns : goal.returns
returns c =
    let a = c.args in
    let gone : (take (length c.remove.new.list - 1) c.remove.new.list ≡ but_one c.in-Some.seeker.number c.args.there.now)
    × FirstWords (take (length c.remove.new.list - 1) c.remove.new.list) c.remove.new.words c.args.bits.now =
    seeker_removed a.threshold a.numbers.now a.sizes.now a.bits.now a.there.now a.heads.now c.requires.0 c.requires.1 c.requires.2
    c.find_seeker.result c.find_seeker.ensures c.in-Some.seeker c.in-Some.is
    a.words.now c.remove.new.list c.remove.new.words c.requires.3 c.requires.4 c.remove.auto.list c.remove.auto.words c.remove.ensures in
    turn_with_join a.threshold a.numbers.now a.sizes.now a.bits.now a.there.now a.heads.now c.requires.0 c.requires.1 c.requires.2
    c.find_seeker.result c.find_seeker.ensures c.in-Some.seeker c.in-Some.is
    (held c.subgroup_at-joining.result) c.subgroup_at-joining.ensures _ gone.0
    c.find_target.result c.find_target.ensures c.in-Some-find_target.target c.in-Some-find_target.is (held c.subgroup_at-joined.result) c.subgroup_at-joined.ensures
    c.join.new.numbers c.join.new.sizes c.join.new.bits c.remove.new.list c.join.ensures
    (sym (ap (λ n. take (n - 1) c.remove.new.list) c.remove.auto.list))
    c.remove.new.words c.rewrite_word.new.words gone.1 c.rewrite_word.ensures
    c.refresh.new.heads c.refresh-2.new.heads c.refresh.auto.heads c.refresh-2.auto.heads c.refresh.ensures c.refresh-2.ensures
