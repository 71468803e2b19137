-- The kinds are found, their first rows merged, and the positions divided by what the merge leaves.
-- ---- what is known once the kinds are found
use Rattle.std.proofs.Common.{◌≡◌, ◌*◌, ◌≤◌, ◌++◌, length, take, drop, sym, ◌∙◌, arith, length-append, length-drop, length-take-le}
use Rattle.subgroups.proofs.Merging.{few, mergeable, can_divide, processed}
use Rattle.subgroups.proofs.stages.run_stages.Goals as goal

pub slice_bounds-merge_in_place-end : goal.slice_bounds-merge_in_place-end
slice_bounds-merge_in_place-end c =
    let at_most : c.find_kinds-count.result ≤ length c.args.set.now =
    let a = c.args in
    few a.bits.now a.sizes.now a.set.now c.requires.0 a.threshold c.find_kinds-count.result ((c.find_kinds-count.new.kind_of)) ((c.find_kinds-count.new.kind_sizes)) ((c.find_kinds-count.new.kind_bits))
    c.find_kinds-count.ensures in
    let finals-room : c.find_kinds-count.result ≤ length ((c.find_kinds-count.new.chain)) =
    omega (arith, at_most, c.requires.2, c.find_kinds-count.auto.chain) in
    finals-room

pub slice_bounds-merge_in_place-end-2 : goal.slice_bounds-merge_in_place-end-2
slice_bounds-merge_in_place-end-2 c =
    let at_most : c.find_kinds-count.result ≤ length c.args.set.now =
    let a = c.args in
    few a.bits.now a.sizes.now a.set.now c.requires.0 a.threshold c.find_kinds-count.result ((c.find_kinds-count.new.kind_of)) ((c.find_kinds-count.new.kind_sizes)) ((c.find_kinds-count.new.kind_bits))
    c.find_kinds-count.ensures in
    let finals-room : c.find_kinds-count.result ≤ length ((c.find_kinds-count.new.chain)) =
    omega (arith, at_most, c.requires.2, c.find_kinds-count.auto.chain) in
    let numbers-long : length (take c.find_kinds-count.result ((c.find_kinds-count.new.chain))) ≡ c.find_kinds-count.result =
    length-take-le c.find_kinds-count.result ((c.find_kinds-count.new.chain)) (finals-room) in
    sym (numbers-long)

pub slice_bounds-merge_in_place-end-3 : goal.slice_bounds-merge_in_place-end-3
slice_bounds-merge_in_place-end-3 c =
    let at_most : c.find_kinds-count.result ≤ length c.args.set.now =
    let a = c.args in
    few a.bits.now a.sizes.now a.set.now c.requires.0 a.threshold c.find_kinds-count.result ((c.find_kinds-count.new.kind_of)) ((c.find_kinds-count.new.kind_sizes)) ((c.find_kinds-count.new.kind_bits))
    c.find_kinds-count.ensures in
    let sizes_room : c.find_kinds-count.result ≤ length ((c.find_kinds-count.new.kind_sizes)) =
    omega (arith, at_most, c.requires.1.sizes, c.find_kinds-count.auto.kind_sizes) in
    sizes_room

pub slice_bounds-merge_in_place-end-4 : goal.slice_bounds-merge_in_place-end-4
slice_bounds-merge_in_place-end-4 c =
    let at_most : c.find_kinds-count.result ≤ length c.args.set.now =
    let a = c.args in
    few a.bits.now a.sizes.now a.set.now c.requires.0 a.threshold c.find_kinds-count.result ((c.find_kinds-count.new.kind_of)) ((c.find_kinds-count.new.kind_sizes)) ((c.find_kinds-count.new.kind_bits))
    c.find_kinds-count.ensures in
    let sizes_room : c.find_kinds-count.result ≤ length ((c.find_kinds-count.new.kind_sizes)) =
    omega (arith, at_most, c.requires.1.sizes, c.find_kinds-count.auto.kind_sizes) in
    sym (length-take-le c.find_kinds-count.result ((c.find_kinds-count.new.kind_sizes)) (sizes_room))

pub overflow_mul-count : goal.overflow_mul-count
overflow_mul-count c =
    let at_most : c.find_kinds-count.result ≤ length c.args.set.now =
    let a = c.args in
    few a.bits.now a.sizes.now a.set.now c.requires.0 a.threshold c.find_kinds-count.result ((c.find_kinds-count.new.kind_of)) ((c.find_kinds-count.new.kind_sizes)) ((c.find_kinds-count.new.kind_bits))
    c.find_kinds-count.ensures in
    omega (arith, at_most, c.requires.0.count)

pub slice_bounds-merge_in_place-end-5 : goal.slice_bounds-merge_in_place-end-5
slice_bounds-merge_in_place-end-5 c =
    let at_most : c.find_kinds-count.result ≤ length c.args.set.now =
    let a = c.args in
    few a.bits.now a.sizes.now a.set.now c.requires.0 a.threshold c.find_kinds-count.result ((c.find_kinds-count.new.kind_of)) ((c.find_kinds-count.new.kind_sizes)) ((c.find_kinds-count.new.kind_bits))
    c.find_kinds-count.ensures in
    let bits_room : 4 * c.find_kinds-count.result ≤ length ((c.find_kinds-count.new.kind_bits)) =
    omega (arith, at_most, c.requires.1.rows, c.find_kinds-count.auto.kind_bits) in
    bits_room

pub slice_bounds-merge_in_place-end-6 : goal.slice_bounds-merge_in_place-end-6
slice_bounds-merge_in_place-end-6 c =
    let at_most : c.find_kinds-count.result ≤ length c.args.set.now =
    let a = c.args in
    few a.bits.now a.sizes.now a.set.now c.requires.0 a.threshold c.find_kinds-count.result ((c.find_kinds-count.new.kind_of)) ((c.find_kinds-count.new.kind_sizes)) ((c.find_kinds-count.new.kind_bits))
    c.find_kinds-count.ensures in
    let bits_room : 4 * c.find_kinds-count.result ≤ length ((c.find_kinds-count.new.kind_bits)) =
    omega (arith, at_most, c.requires.1.rows, c.find_kinds-count.auto.kind_bits) in
    sym (length-take-le (4 * c.find_kinds-count.result) ((c.find_kinds-count.new.kind_bits)) (bits_room))

pub merge_in_place-requires : goal.merge_in_place-requires
merge_in_place-requires c =
    let at_most : c.find_kinds-count.result ≤ length c.args.set.now =
    let a = c.args in
    few a.bits.now a.sizes.now a.set.now c.requires.0 a.threshold c.find_kinds-count.result ((c.find_kinds-count.new.kind_of)) ((c.find_kinds-count.new.kind_sizes)) ((c.find_kinds-count.new.kind_bits))
    c.find_kinds-count.ensures in
    let sizes_room : c.find_kinds-count.result ≤ length ((c.find_kinds-count.new.kind_sizes)) =
    omega (arith, at_most, c.requires.1.sizes, c.find_kinds-count.auto.kind_sizes) in
    let bits_room : 4 * c.find_kinds-count.result ≤ length ((c.find_kinds-count.new.kind_bits)) =
    omega (arith, at_most, c.requires.1.rows, c.find_kinds-count.auto.kind_bits) in
    let finals-room : c.find_kinds-count.result ≤ length ((c.find_kinds-count.new.chain)) =
    omega (arith, at_most, c.requires.2, c.find_kinds-count.auto.chain) in
    let numbers-long : length (take c.find_kinds-count.result ((c.find_kinds-count.new.chain))) ≡ c.find_kinds-count.result =
    length-take-le c.find_kinds-count.result ((c.find_kinds-count.new.chain)) (finals-room) in
    let a = c.args in
    mergeable a.bits.now a.sizes.now a.set.now c.requires.0 a.threshold c.find_kinds-count.result ((c.find_kinds-count.new.kind_of)) ((c.find_kinds-count.new.kind_sizes)) ((c.find_kinds-count.new.kind_bits))
    c.find_kinds-count.ensures (sizes_room) (bits_room) (take c.find_kinds-count.result ((c.find_kinds-count.new.chain))) (numbers-long)

pub divide-requires : goal.divide-requires
divide-requires c =
    let at_most : c.find_kinds-count.result ≤ length c.args.set.now =
    let a = c.args in
    few a.bits.now a.sizes.now a.set.now c.requires.0 a.threshold c.find_kinds-count.result ((c.find_kinds-count.new.kind_of)) ((c.find_kinds-count.new.kind_sizes)) ((c.find_kinds-count.new.kind_bits))
    c.find_kinds-count.ensures in
    let sizes_room : c.find_kinds-count.result ≤ length ((c.find_kinds-count.new.kind_sizes)) =
    omega (arith, at_most, c.requires.1.sizes, c.find_kinds-count.auto.kind_sizes) in
    let bits_room : 4 * c.find_kinds-count.result ≤ length ((c.find_kinds-count.new.kind_bits)) =
    omega (arith, at_most, c.requires.1.rows, c.find_kinds-count.auto.kind_bits) in
    let finals-room : c.find_kinds-count.result ≤ length ((c.find_kinds-count.new.chain)) =
    omega (arith, at_most, c.requires.2, c.find_kinds-count.auto.chain) in
    let numbers-long : length (take c.find_kinds-count.result ((c.find_kinds-count.new.chain))) ≡ c.find_kinds-count.result =
    length-take-le c.find_kinds-count.result ((c.find_kinds-count.new.chain)) (finals-room) in
    let merged-long : length c.merge_in_place.new.numbers ≡ c.find_kinds-count.result =
    c.merge_in_place.auto.numbers ∙ numbers-long in
    let spare-long : length c.args.set.now ≤ length (c.merge_in_place.new.sizes ++ drop c.find_kinds-count.result ((c.find_kinds-count.new.kind_sizes))) =
    let n = c.find_kinds-count.result in
    let same = length-take-le n ((c.find_kinds-count.new.kind_sizes)) (sizes_room) in
    simp (length-append, length-drop)
    (omega (arith, c.merge_in_place.auto.sizes, same, sizes_room, c.requires.1.sizes, c.find_kinds-count.auto.kind_sizes)) in
    let a = c.args in
    let left = c.merge_in_place in
    let same : length ((c.find_kinds-count.new.kind_of)) ≡ length a.set.now = omega (arith, c.requires.1.numbers, c.find_kinds-count.auto.kind_of) in (
      can_divide a.bits.now a.sizes.now a.set.now c.requires.0 a.threshold c.find_kinds-count.result
          ((c.find_kinds-count.new.kind_of)) ((c.find_kinds-count.new.kind_sizes)) ((c.find_kinds-count.new.kind_bits)) c.find_kinds-count.ensures (sizes_room) (bits_room) (take c.find_kinds-count.result ((c.find_kinds-count.new.chain)))
          (numbers-long) left.new.numbers left.new.sizes left.new.bits left.ensures (drop c.find_kinds-count.result ((c.find_kinds-count.new.chain)))
          (merged-long) a.rank.now c.requires.4,
      omega (arith, spare-long, same),
      c.requires.3 ∙ sym same,
    )

pub returns : goal.returns
returns c =
    let at_most : c.find_kinds-count.result ≤ length c.args.set.now =
    let a = c.args in
    few a.bits.now a.sizes.now a.set.now c.requires.0 a.threshold c.find_kinds-count.result ((c.find_kinds-count.new.kind_of)) ((c.find_kinds-count.new.kind_sizes)) ((c.find_kinds-count.new.kind_bits))
    c.find_kinds-count.ensures in
    let sizes_room : c.find_kinds-count.result ≤ length ((c.find_kinds-count.new.kind_sizes)) =
    omega (arith, at_most, c.requires.1.sizes, c.find_kinds-count.auto.kind_sizes) in
    let bits_room : 4 * c.find_kinds-count.result ≤ length ((c.find_kinds-count.new.kind_bits)) =
    omega (arith, at_most, c.requires.1.rows, c.find_kinds-count.auto.kind_bits) in
    let finals-room : c.find_kinds-count.result ≤ length ((c.find_kinds-count.new.chain)) =
    omega (arith, at_most, c.requires.2, c.find_kinds-count.auto.chain) in
    let numbers-long : length (take c.find_kinds-count.result ((c.find_kinds-count.new.chain))) ≡ c.find_kinds-count.result =
    length-take-le c.find_kinds-count.result ((c.find_kinds-count.new.chain)) (finals-room) in
    let merged-long : length c.merge_in_place.new.numbers ≡ c.find_kinds-count.result =
    c.merge_in_place.auto.numbers ∙ numbers-long in
    let a = c.args in
    let left = c.merge_in_place in
    processed a.bits.now a.sizes.now a.set.now c.requires.0 a.threshold c.find_kinds-count.result ((c.find_kinds-count.new.kind_of)) ((c.find_kinds-count.new.kind_sizes)) ((c.find_kinds-count.new.kind_bits))
    c.find_kinds-count.ensures (sizes_room) (bits_room) (take c.find_kinds-count.result ((c.find_kinds-count.new.chain))) (numbers-long) left.new.numbers left.new.sizes
    left.new.bits left.ensures (drop c.find_kinds-count.result ((c.find_kinds-count.new.chain))) (merged-long) a.rank.now c.requires.4
    (drop (4 * c.find_kinds-count.result) ((c.find_kinds-count.new.kind_bits))) c.divide.new.order
    (omega (arith, left.auto.bits, length-take-le (4 * c.find_kinds-count.result) ((c.find_kinds-count.new.kind_bits)) (bits_room))) c.divide.ensures
