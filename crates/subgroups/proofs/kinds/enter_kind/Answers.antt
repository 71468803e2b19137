-- The kind was found, or its row is stored after the others and the kind put first in its bucket.
use Rattle.std.proofs.Common.{arith, le_refl}
use Rattle.subgroups.proofs.Chains.{bucket_below, kind_chained}
use Rattle.subgroups.proofs.Entering.{kind_there, kind_added, row_fits}
use Rattle.subgroups.proofs.kinds.enter_kind.Goals as goal

pub returns-in-Some : goal.returns-in-Some
returns-in-Some c =
    let a = c.args in
    (kind_there a.count a.bits a.kind_sizes.now a.kind_bits.now c.requires.0 c.in-Some.kind c.in-Some.ensures.0 c.in-Some.ensures.1, c.requires.1)

pub store-requires : goal.store-requires
store-requires c =
    let a = c.args in
    let fits = row_fits a.count a.bits a.kind_sizes.now a.kind_bits.now c.requires.0 in
    record { in_row = fits.0; size_value = fits.1 }

pub push_kind-requires : goal.push_kind-requires
push_kind-requires c = (
  omega (arith, bucket_below c.args.bits, c.bucket_of.ensures, c.requires.2.heads_fit),
  omega (arith, c.requires.2.chain_room),
  c.requires.3,
)

pub returns : goal.returns
returns c =
    let a = c.args in
    let st = c.store in
    let new = c.in_default.ensures in (
      kind_added a.count a.bits a.kind_sizes.now a.kind_bits.now c.requires.0 a.count new (le_refl a.count) st.new.sizes st.new.bits st.ensures.0 st.ensures.1,
      kind_chained a.count a.bits a.kind_sizes.now a.kind_bits.now a.heads.now a.chain.now c.requires.0 c.requires.1 c.requires.2
          a.count new (le_refl a.count) st.new.bits st.ensures.1
          c.bucket_of.result c.bucket_of.ensures c.push_kind.new.heads c.push_kind.new.chain
          record { new_head = c.push_kind.ensures.new_head; new_link = c.push_kind.ensures.new_link },
    )
