-- `sums::totals::bad_total` meets its contract. The loop's invariant: `total` is the sum over the modules passed, and at most 2^53.
use Prim.Native.Nat.{suc, ◌+◌}
use mathlib.Core.Bool.{cond}
use mathlib.Core.List.{◌∷◌, [], ◌++◌}
use mathlib.Core.Path.{◌≡◌, sym, ap, ap₂, ◌∙◌}
use native.Mathlib.Numerals.{add-one}
use native.Mathlib.Omega.{arith}
use lib.ListN.{length, get_or, length-append}
use Rattle.std.proofs.lemmas.Slice.Zip.{zip_turn, zip_end}
use Rattle.sums.proofs.KeptSums.{total_of, kept_none, kept_more, passes_total, within_total}
use Rattle.flags.specs.Flags.{listed}
use Rattle.sums.proofs.totals.bad_total.Goals as goal

pub loop-byte-init : goal.loop-byte-init
loop-byte-init c =
    let s = c.args in (sym (kept_none (λ m. listed (get_or s.flags.now m 0)) (λ m. get_or s.sizes.now m 0)), omega arith)

pub returns-then-total-size : goal.returns-then-total-size
returns-then-total-size c =
    let s = c.args in
    let l = c.loop-byte in
    let turn = zip_turn s.flags.now s.sizes.now l.yielded c.into_iter-byte-iterator.result _ c.next.new.self _ (cc) (cc) l.yielded_by (c.in-Some.byte, c.in-Some.size) c.in-Some.is c.next.ensures.steps in
    let size : c.listed_size-size.result ≡ cond (listed (get_or s.flags.now (length l.yielded) 0)) (get_or s.sizes.now (length l.yielded) 0) 0 = c.listed_size-size.ensures ∙ ap₂ (λ x y. cond (listed x) y 0) (turn.2 0) (turn.3 0) in
    λ b h. passes_total b s.flags.now s.sizes.now h (length l.yielded) l.total turn.1 l.invariant.0 (omega (arith, size)) (omega arith)

pub loop-byte-preserved : goal.loop-byte-preserved
loop-byte-preserved c =
    let s = c.args in
    let l = c.loop-byte in
    let turn = zip_turn s.flags.now s.sizes.now l.yielded c.into_iter-byte-iterator.result _ c.next.new.self _ (cc) (cc) l.yielded_by (c.in-Some.byte, c.in-Some.size) c.in-Some.is c.next.ensures.steps in
    let one_more : length (l.yielded ++ ((c.in-Some.byte, c.in-Some.size) ∷ [])) ≡ suc (length l.yielded) = length-append l.yielded _ ∙ add-one (length l.yielded) in
    let size : c.listed_size-size.result ≡ cond (listed (get_or s.flags.now (length l.yielded) 0)) (get_or s.sizes.now (length l.yielded) 0) 0 = c.listed_size-size.ensures ∙ ap₂ (λ x y. cond (listed x) y 0) (turn.2 0) (turn.3 0) in
    let more = ap₂ (λ x y. x + y) l.invariant.0 size
    ∙ sym (kept_more (λ m. listed (get_or s.flags.now m 0)) (λ m. get_or s.sizes.now m 0) (length l.yielded)) in
    (more ∙ ap (total_of s.flags.now s.sizes.now) (sym one_more), omega arith)

pub returns : goal.returns
returns c =
    let s = c.args in
    let l = c.loop-byte in
    let all = zip_end s.flags.now s.sizes.now l.yielded c.into_iter-byte-iterator.result _ c.next.new.self _ (cc) (cc) l.yielded_by c.in-None.is c.next.ensures.steps in
    λ b h. within_total b s.flags.now s.sizes.now h (length l.yielded) l.total (omega (arith, all, c.requires)) l.invariant.0 (omega arith)
