-- `emitting::members::union_of` meets its contract: the module of a turn is the one before those so far.
use Rattle.std.proofs.Common.{◌≡◌, ◌-◌, length, get_or, drop, sym, ap, ◌∙◌, arith}
use lib.Seq.{drop-length}
use Rattle.std.proofs.lemmas.Iterator.Adapters.{YieldsList-from_rev_slice}
use Rattle.std.proofs.lemmas.Iterator.Consumers.{YieldsList-turn}
use Rattle.std.proofs.lemmas.List.{length_push}
use Rattle.bitset.specs.Entries.{union_of, row_of}
use Rattle.emitting.specs.Emitted.{union_of_modules}
use Rattle.emitting.proofs.Backwards.{back_item}
use Rattle.emitting.proofs.OneMore.{union_more}
use Rattle.emitting.proofs.members.union_of.Goals as goal

pub loop-m-init : goal.loop-m-init
unfolding union_of_modules
loop-m-init c =
    let members = c.args.members.now in
    let all : length members - 0 ≡ length members = omega arith in
    c.new-union.ensures ∙ sym (ap (λ n. union_of_modules c.args.bits.now (drop n members)) all ∙ ap (union_of_modules c.args.bits.now) (drop-length members))

pub loop-m-preserved : goal.loop-m-preserved
loop-m-preserved c =
    let bits = c.args.bits.now in
    let members = c.args.members.now in
    let l = c.loop-m in
    let k = length l.yielded in
    let turn = YieldsList-turn (YieldsList-from_rev_slice members (cc)) l.yielded _ l.yielded_by _ _ c.in-Some.m c.in-Some.is c.next.ensures.steps in
    let item = back_item members k c.in-Some.m.now turn in
    c.union-union.ensures
    ∙ ap (λ s. union_of s l.union) (c.row-own.ensures ∙ ap (row_of bits) item.1)
    ∙ ap (union_of (row_of bits (get_or members (length members - 1 - k) 0))) l.invariant
    ∙ sym (ap (λ n. union_of_modules bits (drop (length members - n) members)) (length_push l.yielded c.in-Some.m) ∙ union_more bits members k item.0)
