-- The two subgroups written are those of the join, and each has a row and a whole size.
use Rattle.joins.specs.Held.{held}
use Rattle.merge.proofs.Uniting.{united_fits, vanished_fits, stored}
use Rattle.merge.proofs.engine.join.Goals as goal

pub store-requires : goal.store-requires
store-requires c =
    let fits = united_fits (held c.args.seeker) (held c.args.target) c.args.numbers.now c.args.sizes.now c.args.bits.now c.requires
    (held c.joined_to.result) c.joined_to.ensures in
    record { in_row = fits.0; size_value = fits.1 }

pub store-requires-2 : goal.store-requires-2
store-requires-2 c =
    let st = c.store in
    let fits = vanished_fits (held c.args.seeker) (held c.args.target) c.args.numbers.now c.args.sizes.now c.args.bits.now c.requires
    (held c.joined_to.result) c.joined_to.ensures st.new.sizes st.new.bits st.ensures.0 st.ensures.1
    (held c.vanished.result) c.vanished.ensures in
    record { in_row = fits.0; size_value = fits.1 }

pub returns : goal.returns
returns c =
    stored (held c.args.seeker) (held c.args.target) c.args.numbers.now c.args.sizes.now c.args.bits.now c.requires
    (held c.joined_to.result) c.joined_to.ensures c.store.new.sizes c.store.new.bits c.store.ensures.0 c.store.ensures.1
    (held c.vanished.result) c.vanished.ensures
    c.rename.new.numbers c.store-2.new.sizes c.store-2.new.bits c.rename.ensures c.store-2.ensures.0 c.store-2.ensures.1
