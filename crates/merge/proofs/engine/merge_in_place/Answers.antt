-- The numbers are filled with the definition's start; then the merge is done, or all turns are taken.
use mathlib.Core.Path.{refl, sym, ap, ◌∙◌}
use lib.Ieee.{lt}
use native.Mathlib.Omega.{arith}
use Rattle.lists.specs.Range.{range}
use Rattle.joins.proofs.Doubles.{zero_double}
use Rattle.merge.proofs.Starting.{start_sound, done_too_few, done_no_threshold, done_turns}
use Rattle.merge.proofs.engine.merge_in_place.Goals as goal

pub returns-then-numbers-le1 : goal.returns-then-numbers-le1
returns-then-numbers-le1 c =
    let f = c.fill_range in
    done_too_few c.args.numbers.now c.args.sizes.now c.args.bits.now c.requires f.new.area f.ensures c.args.threshold c.if-numbers-le1.true

pub join_within-requires : goal.join_within-requires
join_within-requires c =
    let f = c.fill_range in
    (start_sound c.args.numbers.now c.args.sizes.now c.args.bits.now c.requires f.new.area f.ensures, f.ensures ∙ ap (range 0) (sym f.auto.area), c.if-numbers-le1024.true, refl, omega arith)

pub join_within-requires-else-numbers-le1024 : goal.join_within-requires-else-numbers-le1024
join_within-requires-else-numbers-le1024 c =
    let f = c.fill_range in
    (start_sound c.args.numbers.now c.args.sizes.now c.args.bits.now c.requires f.new.area f.ensures, f.ensures ∙ ap (range 0) (sym f.auto.area), omega (arith, c.requires.count), refl, omega arith)

pub returns-then-numbers-le1024 : goal.returns-then-numbers-le1024
returns-then-numbers-le1024 c =
    let j = c.join_within in
    let f = c.fill_range in
    done_turns c.args.numbers.now c.args.sizes.now c.args.bits.now c.requires f.new.area f.ensures c.args.threshold
    (ap (λ z. lt z c.args.threshold) (sym zero_double) ∙ c.if-threshold.true)
    c.if-numbers-le1.false
    j.new.numbers j.new.sizes j.new.bits j.auto.numbers j.ensures

pub returns-else-numbers-le1024 : goal.returns-else-numbers-le1024
returns-else-numbers-le1024 c =
    let j = c.join_within-else-numbers-le1024 in
    let f = c.fill_range in
    done_turns c.args.numbers.now c.args.sizes.now c.args.bits.now c.requires f.new.area f.ensures c.args.threshold
    (ap (λ z. lt z c.args.threshold) (sym zero_double) ∙ c.if-threshold.true)
    c.if-numbers-le1.false
    j.new.numbers j.new.sizes j.new.bits j.auto.numbers j.ensures

pub returns-else-threshold : goal.returns-else-threshold
returns-else-threshold c =
    let f = c.fill_range in
    done_no_threshold c.args.numbers.now c.args.sizes.now c.args.bits.now c.requires f.new.area f.ensures c.args.threshold
    (ap (λ z. lt z c.args.threshold) (sym zero_double) ∙ c.if-threshold.false)
