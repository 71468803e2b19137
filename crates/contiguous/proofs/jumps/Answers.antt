-- `contiguous::jumps` meets its contract. The loop's invariant: how many of the records passed are followed by another than their neighbour.
use Prim.Native.Nat.{ℕ, suc, ◌+◌, ◌≤◌, ◌<◌, ◌-◌}
use mathlib.Core.Bool.{Bool, true, false, cond}
use mathlib.Core.List.{List}
use mathlib.Core.Path.{◌≡◌, refl, ap, ◌∙◌}
use native.Mathlib.Nat.{add_comm}
use native.Mathlib.Numerals.{add-one}
use native.Mathlib.Omega.{arith}
use lib.ListN.{length, get_or, take, drop}
use Rattle.std.proofs.lemmas.List.{get_or-take, length-take, length-drop}
use Rattle.std.proofs.lemmas.Grind.{get_or_after_one}
use Rattle.lists.specs.Below.{count_below}
use Rattle.contiguous.specs.Jumps.{is_jump, jumps_of}
use Rattle.contiguous.proofs.jumps.Invariants.{jumpAt}
use Rattle.contiguous.proofs.jumps.Goals as goal

-- the slice behind record 0
abbrev behind : List ℕ → List ℕ
behind next = take (length next - 1) (drop 1 next)

after_one : (next : List ℕ) (i : ℕ) → i < length (behind next) → get_or (behind next) i 0 ≡ get_or next (suc i) 0
after_one next i h =
    let l : i < length next - 1 = omega (arith, length-take (length next - 1) (drop 1 next), length-drop 1 next) in
    let here : 1 + i ≡ suc i = omega arith in
    get_or-take (length next - 1) (drop 1 next) i 0 l ∙ get_or_after_one next i 0 ∙ ap (λ (k : ℕ). get_or next k 0) here

-- one record more
count_more : (next : List ℕ) (i count x more : ℕ) → x ≡ get_or next (suc i) 0 → count ≡ count_below (jumpAt next) i → more ≡ cond (is_jump (i + 1) x) 1 0
    → count + more ≡ count_below (jumpAt next) (i + 1)
unfolding count_below
count_more next i count x more q e f = rw (e, f, q, add-one i) (add_comm (count_below (jumpAt next) i) (cond (jumpAt next i) 1 0))

one_at_most : (b : Bool) → cond b 1 0 ≤ 1
one_at_most true = omega arith
one_at_most false = omega arith

pub loop-i-init : goal.loop-i-init
unfolding count_below
loop-i-init c = (omega arith, refl)

pub loop-i-preserved : goal.loop-i-preserved
loop-i-preserved c =
    let l = c.loop-i in
    let next = c.args.next.now in (
      omega (arith, l.invariant.0, c.jump-count.ensures, one_at_most (is_jump (l.i + 1) (get_or (behind next) l.i 0))),
      count_more next l.i l.count _ c.jump-count.result (after_one next l.i c.loop-i-test.true) l.invariant.1 c.jump-count.ensures,
    )

pub returns : goal.returns
unfolding jumps_of
returns c =
    let l = c.loop-i in
    let next = c.args.next.now in
    let e : l.i ≡ length next - 1 = omega (arith, length-take (length next - 1) (drop 1 next), length-drop 1 next, c.loop-i-test.false) in
    l.invariant.1 ∙ ap (count_below (jumpAt next)) e
