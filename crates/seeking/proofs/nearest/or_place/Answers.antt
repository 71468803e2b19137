-- A number whose first word rules it out is farther than the best; any other is compared.
use Prim.Native.Nat.{◌+◌, ◌<◌}
use mathlib.Core.Path.{◌≡◌, sym, ◌∙◌, subst}
use native.Mathlib.Omega.{arith}
use borrow.Author.Tests.{ltb-true}
use lib.ListN.{get_or}
use Rattle.bitset.specs.Entries.{word_at}
use Rattle.bitset.proofs.Words.{held}
use Rattle.joins.specs.Candidate.{ones_apart}
use Rattle.seeking.proofs.Targets.{nearer_passed, nearer_one}
use Rattle.seeking.proofs.nearest.or_place.Goals as goal

pub bounds-words-i : goal.bounds-words-i
bounds-words-i c = omega (arith, c.requires.0.first.room)

pub returns-then-rules_out : goal.returns-then-rules_out
returns-then-rules_out c =
    let a = c.args in
    let known = c.shared_slice_known-4-1 in
    let far : a.best.distance < ones_apart (word_at a.wanted 0) (get_or a.words.now a.i 0) =
    ltb-true _ _ (sym c.rules_out.ensures ∙ c.if-rules_out.true) in
    nearer_passed a.there.now a.words.now a.sizes.now a.bits.now c.requires.0 a.wanted (λ i h. (known.given i).fits) (search held)
    a.best a.i (a.i + 1) (omega arith) c.requires.1
    (λ k g h. let e : a.i ≡ k = omega arith in subst (λ j. a.best.distance < ones_apart (word_at a.wanted 0) (get_or a.words.now j 0)) e far)

pub overflow_cast-there : goal.overflow_cast-there
overflow_cast-there c =
    omega (arith, c.type_inv.there c.args.i)

pub or_target-requires : goal.or_target-requires
or_target-requires c =
    let r = c.requires.0.readable in
    let h = r.inside c.args.i (omega arith) in
    record { has_size = h; has_bits = omega (arith, c.requires.0.rows); exact = r.exact (get_or c.args.there.now c.args.i 0) h }

pub returns : goal.returns
returns c =
    let a = c.args in
    nearer_one a.there.now a.words.now a.sizes.now a.bits.now c.requires.0 a.wanted
    a.best c.or_target.result a.i c.requires.2 c.requires.1 c.or_target.ensures
