-- The nearest so far c, and one more x that is looked at.
use Prim.Native.Nat.{◌<◌}
use mathlib.Core.Bool.{true, false, cond}
use mathlib.Core.Path.{◌≡◌, sym, ap}
use borrow.Author.Tests.{lt-ltb, le-ltb}
use native.Mathlib.Omega.{arith}
use Rattle.lists.specs.Least.{earlier}
use Rattle.joins.specs.Candidate.{comes_first}
use Rattle.joins.specs.declared.candidate.Candidate.{Candidate}

module _ (c x : Candidate) where
  pub not_earlier : comes_first x c ≡ false → c ≡ earlier comes_first c x
  not_earlier e = sym (ap (λ b. cond b x c) e)

  pub is_earlier : comes_first x c ≡ true → x ≡ earlier comes_first c x
  is_earlier e = sym (ap (λ b. cond b x c) e)

  pub farther : c.distance < x.distance → comes_first x c ≡ false
  unfolding comes_first
  farther l = rw (le-ltb x.distance c.distance (omega arith), lt-ltb c.distance x.distance l)
