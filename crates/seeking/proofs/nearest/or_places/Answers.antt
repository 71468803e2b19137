-- The invariant: the nearest so far, once the places up to i were looked at.
use mathlib.Core.Path.{◌≡◌, subst}
use native.Mathlib.Omega.{arith}
use Rattle.seeking.specs.Search.{Nearer}
use Rattle.seeking.proofs.Targets.{nearer_stays, nearer_then}
use Rattle.seeking.proofs.nearest.or_places.Goals as goal

pub loop-i-init : goal.loop-i-init
loop-i-init c =
    let a = c.args in (
      c.requires.2,
      nearer_stays a.there.now a.words.now a.sizes.now a.bits.now c.requires.0 a.wanted a.best a.from a.from c.requires.1
          (λ k g h. absurd (omega arith)),
    )

pub or_place-nearest-requires : goal.or_place-nearest-requires
or_place-nearest-requires c =
    (c.requires.0, c.loop-i.invariant.1.of_list, omega arith)

pub loop-i-preserved : goal.loop-i-preserved
loop-i-preserved c =
    let l = c.loop-i in
    let a = c.args in
    (omega arith, nearer_then a.there.now a.sizes.now a.bits.now a.wanted _ _ _ a.from l.i _ l.invariant.1 c.or_place-nearest.ensures)

pub returns : goal.returns
returns c =
    let l = c.loop-i in
    let a = c.args in
    let all : l.i ≡ a.end = omega (arith, l.invariant.0) in
    subst (Nearer a.there.now a.sizes.now a.bits.now a.wanted a.best l.nearest a.from) all l.invariant.1
