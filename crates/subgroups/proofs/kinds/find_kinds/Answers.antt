-- The invariant: the first i modules are counted, the kinds are on their chains, and the tables are as long as they were.
use Rattle.std.proofs.Common.{◌≡◌, ◌≤◌, length, take, refl, ◌∙◌, subst₂, arith, length-set, length-take, take_all}
use Rattle.subgroups.proofs.Counting.{Counted, none_counted}
use Rattle.subgroups.proofs.Chains.{none_chained}
use Rattle.subgroups.proofs.Turning.{size_fits, kind_small, next_counted}
use Rattle.subgroups.proofs.Positions.{all_found}
use Rattle.subgroups.proofs.kinds.find_kinds.Goals as goal

pub loop-i-init : goal.loop-i-init
loop-i-init c =
    let a = c.args in (
      omega arith,
      none_counted a.bits.now a.sizes.now a.kind_sizes.now a.kind_bits.now,
      refl,
      refl,
      refl,
      none_chained a.kind_bits.now _ a.chain.now refl,
      refl,
      refl,
    )

pub overflow_cast-kind_of : goal.overflow_cast-kind_of
overflow_cast-kind_of c =
    let sizes-long : length c.args.set.now ≤ length c.enter_kind-found.new.kind_sizes =
    omega (arith, c.loop-i.invariant.3, c.requires.1.sizes, c.enter_kind-found.auto.kind_sizes) in
    let a = c.args in
    let l = c.loop-i in
    let e = c.enter_kind-found in
    let small = kind_small a.bits.now a.sizes.now a.set.now c.requires.0 l.i l.count l.kind_of l.kind_sizes l.kind_bits
    l.invariant.1 c.loop-i-test.true
    c.row.result c.row.ensures e.result.kind e.result.count e.new.kind_sizes e.new.kind_bits e.ensures.0 (sizes-long) in
    omega arith

pub add_to_kind-requires : goal.add_to_kind-requires
add_to_kind-requires c =
    let sizes-long : length c.args.set.now ≤ length c.enter_kind-found.new.kind_sizes =
    omega (arith, c.loop-i.invariant.3, c.requires.1.sizes, c.enter_kind-found.auto.kind_sizes) in
    let a = c.args in
    let l = c.loop-i in
    let e = c.enter_kind-found in
    size_fits a.bits.now a.sizes.now a.set.now c.requires.0 l.i l.count l.kind_of l.kind_sizes l.kind_bits l.invariant.1
    c.loop-i-test.true
    c.row.result c.row.ensures e.result.kind e.result.count e.new.kind_sizes e.new.kind_bits e.ensures.0 (sizes-long)

pub loop-i-preserved : goal.loop-i-preserved
loop-i-preserved c =
    let sizes-long : length c.args.set.now ≤ length c.enter_kind-found.new.kind_sizes =
    omega (arith, c.loop-i.invariant.3, c.requires.1.sizes, c.enter_kind-found.auto.kind_sizes) in
    let a = c.args in
    let l = c.loop-i in
    let e = c.enter_kind-found in
    let next = next_counted a.bits.now a.sizes.now a.set.now c.requires.0 l.i l.count l.kind_of l.kind_sizes l.kind_bits
    l.invariant.1 c.loop-i-test.true
    c.row.result c.row.ensures e.result.kind e.result.count e.new.kind_sizes e.new.kind_bits e.ensures.0 (sizes-long)
    (omega (arith, l.invariant.2, c.requires.1.numbers, c.loop-i-test.true)) in (
      omega (arith, c.loop-i-test.true),
      rw c.add_to_kind.ensures next,
      simp length-set l.invariant.2,
      c.add_to_kind.auto.kind_sizes ∙ e.auto.kind_sizes ∙ l.invariant.3,
      e.auto.kind_bits ∙ l.invariant.4,
      e.ensures.1,
      e.auto.heads ∙ l.invariant.6,
      e.auto.chain ∙ l.invariant.7,
    )

pub returns : goal.returns
returns c =
    let a = c.args in
    let l = c.loop-i in
    let few : length (take l.i a.set.now) ≤ length a.set.now = omega (arith, length-take l.i a.set.now) in
    let set_all : take l.i a.set.now ≡ a.set.now = take_all l.i a.set.now (omega arith) in
    let all : take l.i l.kind_of ≡ l.kind_of = take_all l.i l.kind_of (omega (arith, l.invariant.2, c.requires.1.numbers)) in
    all_found a.bits.now a.sizes.now a.set.now l.count l.kind_of l.kind_sizes l.kind_bits
    (omega (arith, l.invariant.1.most, l.invariant.3, c.requires.1.sizes))
    (subst₂ (λ c n. Counted a.bits.now a.sizes.now c l.count n l.kind_sizes l.kind_bits) set_all all l.invariant.1)
