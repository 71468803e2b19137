-- The first entries of the areas are the tables, copied; the merge in place is done there.
use mathlib.Core.Path.{sym}
use Rattle.merge.proofs.Areas.{numbers_part, sizes_part₂, bits_part₂, mergeable, merged_in}
use Rattle.merge.proofs.merge_into.Goals as goal

pub slice_bounds-merge_in_place-end-2 : goal.slice_bounds-merge_in_place-end-2
slice_bounds-merge_in_place-end-2 c = sym (numbers_part c.args.k c.args.sizes.now c.args.bits.now ((record { numbers = c.args.final_numbers.now; sizes = c.args.final_sizes.now; bits = c.args.final_bits.now })) c.requires)

pub slice_bounds-merge_in_place-end-4 : goal.slice_bounds-merge_in_place-end-4
slice_bounds-merge_in_place-end-4 c =
    sizes_part₂ c.args.k c.args.sizes.now c.args.bits.now ((record { numbers = c.args.final_numbers.now; sizes = c.args.final_sizes.now; bits = c.args.final_bits.now })) c.requires c.copy.new.to c.copy-2.new.to c.copy.ensures c.copy-2.ensures

pub slice_bounds-merge_in_place-end-6 : goal.slice_bounds-merge_in_place-end-6
slice_bounds-merge_in_place-end-6 c =
    bits_part₂ c.args.k c.args.sizes.now c.args.bits.now ((record { numbers = c.args.final_numbers.now; sizes = c.args.final_sizes.now; bits = c.args.final_bits.now })) c.requires c.copy.new.to c.copy-2.new.to c.copy.ensures c.copy-2.ensures

pub merge_in_place-requires : goal.merge_in_place-requires
merge_in_place-requires c =
    mergeable c.args.k c.args.sizes.now c.args.bits.now ((record { numbers = c.args.final_numbers.now; sizes = c.args.final_sizes.now; bits = c.args.final_bits.now })) c.requires c.copy.new.to c.copy-2.new.to c.copy.ensures c.copy-2.ensures

pub returns : goal.returns
returns c =
    merged_in c.args.k c.args.sizes.now c.args.bits.now ((record { numbers = c.args.final_numbers.now; sizes = c.args.final_sizes.now; bits = c.args.final_bits.now })) c.requires c.copy.new.to c.copy-2.new.to c.copy.ensures c.copy-2.ensures c.args.threshold
    c.merge_in_place.new.numbers c.merge_in_place.new.sizes c.merge_in_place.new.bits c.merge_in_place.ensures
