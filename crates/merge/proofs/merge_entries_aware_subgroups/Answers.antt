-- Each refusal is the first condition that applies; if none does, the areas are what `merge_into` leaves.
use mathlib.Core.Path.{sym}
use native.Mathlib.Omega.{arith}
use Rattle.merge.specs.Call.{Given, Areas}
use Rattle.merge.proofs.Refusals.{few, bits_fit, refuses_1, refuses_2, refuses_6, refuses_8, refuses_9, refuses_12, ready, done}
use Rattle.merge.proofs.merge_entries_aware_subgroups.Goals as goal

pub returns-then-counts_exceed : goal.returns-then-counts_exceed
returns-then-counts_exceed c =
    let g : Given = record { k = c.args.k; entries = c.args.entries; sizes = c.args.sizes.now; bits = c.args.bits.now; threshold = c.args.threshold } in
    let a : Areas = record { numbers = c.args.final_numbers.now; sizes = c.args.final_sizes.now; bits = c.args.final_bits.now } in
    refuses_1 g a (sym c.if-counts_exceed.ensures)

pub lengths_differ-requires : goal.lengths_differ-requires
lengths_differ-requires c =
    let g : Given = record { k = c.args.k; entries = c.args.entries; sizes = c.args.sizes.now; bits = c.args.bits.now; threshold = c.args.threshold } in
    let a : Areas = record { numbers = c.args.final_numbers.now; sizes = c.args.final_sizes.now; bits = c.args.final_bits.now } in
    few g a (sym c.if-counts_exceed.ensures)

pub returns-then-lengths_differ : goal.returns-then-lengths_differ
returns-then-lengths_differ c =
    let g : Given = record { k = c.args.k; entries = c.args.entries; sizes = c.args.sizes.now; bits = c.args.bits.now; threshold = c.args.threshold } in
    let a : Areas = record { numbers = c.args.final_numbers.now; sizes = c.args.final_sizes.now; bits = c.args.final_bits.now } in
    refuses_2 g a (sym c.if-counts_exceed.ensures) (sym c.if-lengths_differ.ensures)

pub returns-then-total_exceeds : goal.returns-then-total_exceeds
returns-then-total_exceeds c =
    let g : Given = record { k = c.args.k; entries = c.args.entries; sizes = c.args.sizes.now; bits = c.args.bits.now; threshold = c.args.threshold } in
    let a : Areas = record { numbers = c.args.final_numbers.now; sizes = c.args.final_sizes.now; bits = c.args.final_bits.now } in
    refuses_6 g a (sym c.if-counts_exceed.ensures) (sym c.if-lengths_differ.ensures) (sym c.if-total_exceeds.ensures)

pub returns-then-is_nan : goal.returns-then-is_nan
returns-then-is_nan c =
    let g : Given = record { k = c.args.k; entries = c.args.entries; sizes = c.args.sizes.now; bits = c.args.bits.now; threshold = c.args.threshold } in
    let a : Areas = record { numbers = c.args.final_numbers.now; sizes = c.args.final_sizes.now; bits = c.args.final_bits.now } in
    refuses_8 g a (sym c.if-counts_exceed.ensures) (sym c.if-lengths_differ.ensures) (sym c.if-total_exceeds.ensures) (sym c.if-is_nan.ensures)

pub any_bit_from-requires : goal.any_bit_from-requires
any_bit_from-requires c =
    let g : Given = record { k = c.args.k; entries = c.args.entries; sizes = c.args.sizes.now; bits = c.args.bits.now; threshold = c.args.threshold } in
    let a : Areas = record { numbers = c.args.final_numbers.now; sizes = c.args.final_sizes.now; bits = c.args.final_bits.now } in
    omega (arith, bits_fit g a (sym c.if-counts_exceed.ensures) (sym c.if-lengths_differ.ensures))

pub returns-then-any_bit_from : goal.returns-then-any_bit_from
returns-then-any_bit_from c =
    let g : Given = record { k = c.args.k; entries = c.args.entries; sizes = c.args.sizes.now; bits = c.args.bits.now; threshold = c.args.threshold } in
    let a : Areas = record { numbers = c.args.final_numbers.now; sizes = c.args.final_sizes.now; bits = c.args.final_bits.now } in
    refuses_9 g a (sym c.if-counts_exceed.ensures) (sym c.if-lengths_differ.ensures) (sym c.if-total_exceeds.ensures) (sym c.if-is_nan.ensures) (sym c.if-any_bit_from.ensures)

pub areas_short-requires : goal.areas_short-requires
areas_short-requires c =
    let g : Given = record { k = c.args.k; entries = c.args.entries; sizes = c.args.sizes.now; bits = c.args.bits.now; threshold = c.args.threshold } in
    let a : Areas = record { numbers = c.args.final_numbers.now; sizes = c.args.final_sizes.now; bits = c.args.final_bits.now } in
    few g a (sym c.if-counts_exceed.ensures)

pub returns-then-areas_short : goal.returns-then-areas_short
returns-then-areas_short c =
    let g : Given = record { k = c.args.k; entries = c.args.entries; sizes = c.args.sizes.now; bits = c.args.bits.now; threshold = c.args.threshold } in
    let a : Areas = record { numbers = c.args.final_numbers.now; sizes = c.args.final_sizes.now; bits = c.args.final_bits.now } in
    refuses_12 g a (sym c.if-counts_exceed.ensures) (sym c.if-lengths_differ.ensures) (sym c.if-total_exceeds.ensures) (sym c.if-is_nan.ensures) (sym c.if-any_bit_from.ensures) (sym c.if-areas_short.ensures)

pub merge_into-requires : goal.merge_into-requires
merge_into-requires c =
    let g : Given = record { k = c.args.k; entries = c.args.entries; sizes = c.args.sizes.now; bits = c.args.bits.now; threshold = c.args.threshold } in
    let a : Areas = record { numbers = c.args.final_numbers.now; sizes = c.args.final_sizes.now; bits = c.args.final_bits.now } in
    ready g a (sym c.if-counts_exceed.ensures) (sym c.if-lengths_differ.ensures) (sym c.if-total_exceeds.ensures) (sym c.if-is_nan.ensures) (sym c.if-any_bit_from.ensures) (sym c.if-areas_short.ensures)

pub returns : goal.returns
returns c =
    let g : Given = record { k = c.args.k; entries = c.args.entries; sizes = c.args.sizes.now; bits = c.args.bits.now; threshold = c.args.threshold } in
    let a : Areas = record { numbers = c.args.final_numbers.now; sizes = c.args.final_sizes.now; bits = c.args.final_bits.now } in
    done g a (sym c.if-counts_exceed.ensures) (sym c.if-lengths_differ.ensures) (sym c.if-total_exceeds.ensures) (sym c.if-is_nan.ensures) (sym c.if-any_bit_from.ensures) (sym c.if-areas_short.ensures)
    (record { numbers = c.merge_into.new.final_numbers; sizes = c.merge_into.new.final_sizes; bits = c.merge_into.new.final_bits })
    (c.merge_into.ensures c.args.entries)
