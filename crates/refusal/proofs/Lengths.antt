-- What passed tests of lengths say: each is the one that its counts imply.
use Prim.Native.Nat.{ℕ}
use mathlib.Core.Bool.{Bool, true, false, not, ◌||◌, true≢false}
use mathlib.Core.Path.{◌≡◌, refl}
use borrow.Author.Tests.{eqb-true, not-false}
use lib.Dec.{eqb}

pub right_length : (l n : ℕ) → not (eqb l n) ≡ false → l ≡ n
right_length l n e = eqb-true l n (not-false (eqb l n) e)

-- the first of several, and the others
pub first_length : (l n : ℕ) (t : Bool) → (not (eqb l n) || t) ≡ false → (l ≡ n) × (t ≡ false)
first_length l n t e = go (eqb l n) refl e
  where
    go : (b : Bool) → eqb l n ≡ b → (not b || t) ≡ false → (l ≡ n) × (t ≡ false)
    go true q f = (eqb-true l n q, f)
    go false q f = absurd (true≢false f)
