-- `subgroups::kinds::find_kind` meets its contract. The invariant: no kind from `at` on has the bits, and what `at` leads to has their bucket. The
-- measure is `at`: links fall.
use Rattle.std.proofs.Common.{List, ◌≡◌, ℕ, suc, ◌-◌, ◌<◌, get_or, sym, ap, ◌∙◌, subst, arith}
use Rattle.bitset.specs.declared.entries.BitSet.{BitSet}
use Rattle.grouping.specs.Subgroups.{same_bits}
use Rattle.subgroups.proofs.Chains.{Searching, bucket_below, search_starts, kind_in, search_goes_on, found_here, found_nowhere}
use Rattle.subgroups.proofs.kinds.find_kind.Goals as goal

pub bounds-heads-bucket : goal.bounds-heads-bucket
bounds-heads-bucket c = omega (arith, bucket_below c.args.bits, c.bucket_of-bucket.ensures, c.requires.2.heads_fit)

pub offset_bounds-heads-bucket : goal.offset_bounds-heads-bucket
offset_bounds-heads-bucket c = omega (arith, bucket_below c.args.bits, c.bucket_of-bucket.ensures)

pub loop-at-init : goal.loop-at-init
loop-at-init c =
    let a = c.args in
    subst (λ (n : ℕ). Searching a.kind_bits.now a.count a.bits (get_or a.heads.now n 0)) (sym c.bucket_of-bucket.ensures)
    (search_starts a.kind_bits.now a.count a.heads.now a.chain.now c.requires.1 a.bits (bucket_below a.bits))

-- a kind on the chain is one of them, and what is known of it holds
here : {bits : List ℕ} {count at : ℕ} {x : BitSet} → 0 < at → Searching bits count x at → Searching bits count x (suc (at - 1))
here {bits} {count} {at} {x} h s = let e : at ≡ suc (at - 1) = omega arith in subst (λ (n : ℕ). Searching bits count x n) e s

pub returns-then-same_bits : goal.returns-then-same_bits
returns-then-same_bits c =
    let a = c.args in
    let kind : ℕ = c.loop-at.at - 1 in
    let found = here c.loop-at-test.true c.loop-at.invariant in
    let same = ap (λ c. same_bits c a.bits) (sym c.row.ensures) ∙ sym c.same_bits.ensures ∙ c.if-same_bits.true in (
      found_here a.kind_bits.now a.count a.heads.now a.chain.now c.requires.1 a.bits kind found same,
      kind_in a.kind_bits.now a.count a.heads.now a.chain.now c.requires.1 a.bits kind found,
    )

pub loop-at-preserved : goal.loop-at-preserved
loop-at-preserved c =
    let a = c.args in
    let other = ap (λ c. same_bits c a.bits) (sym c.row.ensures) ∙ sym c.same_bits.ensures ∙ c.if-same_bits.false in
    search_goes_on a.kind_bits.now a.count a.heads.now a.chain.now c.requires.1 a.bits (c.loop-at.at - 1) (here c.loop-at-test.true c.loop-at.invariant) other

pub returns : goal.returns
returns c =
    let a = c.args in
    let end : c.loop-at.at ≡ 0 = omega (arith, c.loop-at-test.false) in
    found_nowhere a.kind_bits.now a.count a.heads.now a.chain.now c.requires.1 a.bits
    (subst (λ (n : ℕ). Searching a.kind_bits.now a.count a.bits n) end c.loop-at.invariant)
