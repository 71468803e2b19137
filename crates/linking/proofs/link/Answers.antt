-- `linking::link` meets its contract: the module of a turn is the one before those so far.
use Rattle.std.proofs.Common.{◌≡◌, ℕ, ◌+◌, ◌-◌, ◌<◌, List, length, get_or, sym, ap, ◌∙◌, subst, arith}
use Rattle.std.proofs.lemmas.Iterator.Adapters.{YieldsList-from_rev_slice}
use Rattle.std.proofs.lemmas.Iterator.Consumers.{YieldsList-turn}
use Rattle.std.proofs.lemmas.List.{length_push}
use Rattle.emitting.proofs.Backwards.{back_item}
use Rattle.linking.specs.Links.{Links, pushed_at, slot_of}
use Rattle.linking.proofs.OneMore.{Pushing, push_start, push_none, push_some}
use Rattle.linking.proofs.link.Goals as goal

abbrev links : List ℕ → List ℕ → Links
links next_of first_of = record { next_of = next_of; first_of = first_of }

-- one module fewer is to come
next_left : {order chunk_of : List ℕ} {base at : ℕ} {entry now : Links} (k k' : ℕ) → k' ≡ k + 1
    → Pushing order chunk_of base at entry now (length order - k - 1) → Pushing order chunk_of base at entry now (length order - k')
next_left {order} {chunk_of} {base} {at} {entry} {now} k k' e p =
    let same : length order - k - 1 ≡ length order - k' = omega arith in
    subst (λ (n : ℕ). Pushing order chunk_of base at entry now n) same p

sub_order : (order : List ℕ) (k : ℕ) → length order - k - 1 ≡ length order - 1 - k
sub_order order k = omega arith

pub loop-m-init : goal.loop-m-init
loop-m-init c =
    let a = c.args in
    let all : length a.order.now ≡ length a.order.now - 0 = omega arith in
    let entry = links a.next_of.now a.first_of.now in
    subst (λ (n : ℕ). Pushing a.order.now a.chunk_of.now a.base a.at entry entry n) all (push_start a.order.now a.chunk_of.now a.base a.at entry)

pub loop-m-preserved-then-c-gt0 : goal.loop-m-preserved-then-c-gt0
loop-m-preserved-then-c-gt0 c =
    let a = c.args in
    let l = c.loop-m in
    let o = a.order.now in
    let k = length l.yielded in
    let turn = YieldsList-turn (YieldsList-from_rev_slice o (cc)) l.yielded _ l.yielded_by _ _ c.in-Some.m c.in-Some.is c.next.ensures.steps in
    let item = back_item o k c.in-Some.m.now turn in
    let left : 0 < length o - k = omega (arith, item.0) in
    let place : get_or o (length o - k - 1) 0 ≡ c.in-Some.m.now = ap (λ (n : ℕ). get_or o n 0) (sub_order o k) ∙ sym item.1 in
    let of : List ℕ = a.chunk_of.now in
    let some : 0 < get_or of c.in-Some.m.now 0 = omega arith in
    let now : Links = links l.next_of l.first_of in
    let after : Links = links c.push_front.new.next_of c.push_front.new.first_of in
    next_left k _ (length_push l.yielded c.in-Some.m)
    (push_some o of a.base a.at (links a.next_of.now a.first_of.now) l.invariant left (subst (λ (n : ℕ). 0 < get_or of n 0) (sym place) some) after
    (subst (λ (n : ℕ). after ≡ pushed_at (slot_of a.base a.at (get_or of n 0)) n now) (sym place) c.push_front.ensures))

pub loop-m-preserved : goal.loop-m-preserved
loop-m-preserved c =
    let a = c.args in
    let l = c.loop-m in
    let o = a.order.now in
    let k = length l.yielded in
    let turn = YieldsList-turn (YieldsList-from_rev_slice o (cc)) l.yielded _ l.yielded_by _ _ c.in-Some.m c.in-Some.is c.next.ensures.steps in
    let item = back_item o k c.in-Some.m.now turn in
    let left : 0 < length o - k = omega (arith, item.0) in
    let place : get_or o (length o - k - 1) 0 ≡ c.in-Some.m.now = ap (λ (n : ℕ). get_or o n 0) (sub_order o k) ∙ sym item.1 in
    next_left k _ (length_push l.yielded c.in-Some.m)
    (push_none o a.chunk_of.now a.base a.at (links a.next_of.now a.first_of.now) l.invariant left
    (ap (λ (n : ℕ). get_or a.chunk_of.now n 0) place ∙ omega arith))
