-- `ranks::by_id::shares_id` meets its contract. The loop's invariant: no neighbours before place i tie.
use Prim.Native.Nat.{ℕ, suc, ◌+◌, ◌-◌}
use mathlib.Core.Bool.{Bool, false}
use mathlib.Core.Path.{◌≡◌, refl, sym, ap, ◌∙◌}
use native.Mathlib.Omega.{arith}
use lib.ListN.{length}
use Rattle.lists.specs.Below.{any_below}
use Rattle.lists.proofs.Below.{any_some}
use Rattle.ranks.specs.ById.{tied_at, neighbours_tie}
use Rattle.ranks.proofs.by_id.shares_id.Goals as goal

pub loop-i-init : goal.loop-i-init
unfolding any_below
loop-i-init c = (omega arith, refl)

pub tied_at-requires : goal.tied_at-requires
tied_at-requires c = (c.requires, omega arith)

pub returns-then-tied_at : goal.returns-then-tied_at
unfolding neighbours_tie
returns-then-tied_at c =
    let a = c.args in
    let l = c.loop-i in
    let tied : ℕ → Bool = tied_at a.ids.now.bytes.now a.ids.now.offsets.now a.list.now in
    sym (any_some tied (length a.list.now - 1) (l.i - 1) (omega arith) (sym c.tied_at.ensures ∙ c.if-tied_at.true))

pub loop-i-preserved : goal.loop-i-preserved
unfolding any_below
loop-i-preserved c =
    let a = c.args in
    let l = c.loop-i in
    let e : tied_at a.ids.now.bytes.now a.ids.now.offsets.now a.list.now (l.i - 1) ≡ false = sym c.tied_at.ensures ∙ c.if-tied_at.false in
    let more : l.i + 1 - 1 ≡ suc (l.i - 1) = omega arith in
    (omega arith, rw (more, e) l.invariant.1)

pub returns : goal.returns
unfolding neighbours_tie
returns c =
    let a = c.args in
    let l = c.loop-i in
    let e : l.i - 1 ≡ length a.list.now - 1 = omega arith in
    sym l.invariant.1 ∙ ap (any_below (tied_at a.ids.now.bytes.now a.ids.now.offsets.now a.list.now)) e
