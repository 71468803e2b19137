-- What looking at one cut does: one that is not allowed, or between ids that are too alike, leaves the best as it is, and any other is compared
-- with it.
use mathlib.Core.Bool.{Bool, true, false, cond}
use mathlib.Core.Path.{◌≡◌, refl}
use Prim.Native.Nat.{ℕ, ◌+◌, ◌≤◌, ◌<◌}
use native.Mathlib.Omega.{arith}
use borrow.Author.Tests.{ltb-true, lt-ltb, le-ltb}
use lib.Ieee.{Float}
use Rattle.std.specs.Prelude.{Option, None, Some}
use Rattle.cut.specs.Candidate.{allowed, beats}
use Rattle.cut.specs.Cut.{better}
use Rattle.cut.specs.Scan.{replaced, ruled_out, considered}
use Rattle.cut.specs.declared.candidate.Candidate.{Candidate}
use Rattle.cut.specs.declared.scan.Bounds.{Bounds}

either_way : {A : Type 0} (t : Bool) (x : A) → cond t x x ≡ x
either_way true x = refl
either_way false x = refl

-- a similarity that is higher by more than 10 loses
higher : (maximum : Float) (later best : Candidate) → best.similarity + 10 < later.similarity → beats maximum later best ≡ false
unfolding beats
higher maximum later best h =
    let g : best.similarity ≤ later.similarity + 10 = omega arith in
    rw (le-ltb _ _ g, lt-ltb _ _ h)

module _ (b : Bounds) where
  pub too_alike : (best : Option Candidate) (c : Candidate) → ruled_out best c.similarity ≡ true → considered b best c ≡ best
  unfolding considered better
  too_alike None c e = absurd (let z : ◌≡◌ {A = ℕ} 0 1 = cc in omega arith)
  too_alike (Some x) c e =
      let loses : beats b.maximum c x ≡ false = higher b.maximum c x (ltb-true _ _ e) in
      rw loses (either_way (allowed b.minimum c) (Some x))

  module _ (best : Option Candidate) (c : Candidate) where
    pub not_allowed_lem : allowed b.minimum c ≡ false → considered b best c ≡ best
    unfolding considered
    not_allowed_lem e = rw e

    pub is_allowed : allowed b.minimum c ≡ true → considered b best c ≡ replaced b.maximum best c
    unfolding considered
    is_allowed e = rw e
